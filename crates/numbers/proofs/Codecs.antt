-- A record's numbers written and read back, and read and written back: the codecs of two and of four bytes.
-- A single byte is `byte` of the lists crate's Codec.
use mathlib.Core.Path.{◌≡◌, refl, sym, ap, ap₂, ◌∙◌}
use mathlib.Core.List.{List, [], ◌∷◌, ◌++◌}
use Prim.Native.Nat.{ℕ, suc, ◌+◌, ◌*◌, ◌/◌, ◌%◌, ◌≤◌, ◌<◌}
use native.Mathlib.Numerals.{add-one}
use native.Mathlib.Omega.{arith}
use lib.ListN.{length, get_or, take, drop}
use lib.Seq.{get_or-append-add, get_or-append_seam, drop-cons}
use Rattle.lists.specs.All.{All}
use Rattle.lists.proofs.Codec.{Codec, pair, named}
use Rattle.numbers.specs.BigEndian.{u16_at, u32_at, u16_bytes, u32_bytes}

pub length_u16 : (v : ℕ) → length (u16_bytes v) ≡ 2
unfolding u16_bytes
length_u16 v = refl

pub u16_back : (pre : List ℕ) (v : ℕ) (post : List ℕ) → u16_at (pre ++ (u16_bytes v ++ post)) (length pre) ≡ v
unfolding u16_at u16_bytes
u16_back pre v post =
    rw (get_or-append_seam pre (v / 256) (v % 256 ∷ post) 0, get_or-append-add pre (v / 256 ∷ v % 256 ∷ post) 1 0) (omega arith)

pub u16_forth : (b : List ℕ) (o : ℕ) → o + 2 ≤ length b → (get_or b o 0 < 256) × (get_or b (o + 1) 0 < 256) → u16_bytes (u16_at b o) ≡ take 2 (drop o b)
unfolding u16_at u16_bytes
u16_forth b o h w =
    let high : get_or b o 0 ≡ (get_or b o 0 * 256 + get_or b (o + 1) 0) / 256 = omega arith in
    let low : get_or b (suc o) 0 ≡ (get_or b o 0 * 256 + get_or b (o + 1) 0) % 256 = ap (λ (k : ℕ). get_or b k 0) (sym (add-one o)) ∙ omega arith in
    sym (ap (take 2) (drop-cons b o 0 (omega arith) ∙ ap (◌∷◌ (get_or b o 0)) (drop-cons b (suc o) 0 (omega arith)))
    ∙ ap₂ (λ (x y : ℕ). x ∷ y ∷ []) high low)

pub u16_small : (v : ℕ) → v < 65536 → All (λ (x : ℕ). x < 256) (u16_bytes v)
unfolding u16_bytes
u16_small v h = (omega arith, (omega arith, tt))

-- two bytes
abbrev pub u16 : Codec ℕ
u16 = record {
  width = 2;
  Fits = λ (v : ℕ). v < 65536;
  bytes = u16_bytes;
  value = u16_at;
  Formed = λ (b : List ℕ) (o : ℕ). (get_or b o 0 < 256) × (get_or b (o + 1) 0 < 256);
  size = length_u16;
  back = λ pre v post h. u16_back pre v post;
  forth = u16_forth;
  small = u16_small;
  made = λ pre v post h z. (z (length pre), z (length pre + 1));
}

pub u16_below : (b : List ℕ) (o : ℕ) → (get_or b o 0 < 256) × (get_or b (o + 1) 0 < 256) → u16_at b o < 65536
unfolding u16_at
u16_below b o h = omega arith

pub u32_formed : (b : List ℕ) (o : ℕ) → ((get_or b o 0 < 256) × (get_or b (o + 1) 0 < 256)) × ((get_or b (o + 2) 0 < 256) × (get_or b (o + 2 + 1) 0 < 256))
    → ◌≡◌ {A = ℕ × ℕ} ((u16_at b o * 65536 + u16_at b (o + 2)) / 65536, (u16_at b o * 65536 + u16_at b (o + 2)) % 65536) (u16_at b o, u16_at b (o + 2))
u32_formed b o h =
    let low : u16_at b (o + 2) < 65536 = u16_below b (o + 2) h.1 in
    let p : (u16_at b o * 65536 + u16_at b (o + 2)) / 65536 ≡ u16_at b o = omega arith in
    let q : (u16_at b o * 65536 + u16_at b (o + 2)) % 65536 ≡ u16_at b (o + 2) = omega arith in
    λ i. (p i, q i)

-- four bytes: two numbers of two
abbrev pub u32 : Codec ℕ
u32 = named (pair u16 u16)
    (λ (x : ℕ × ℕ). x.0 * 65536 + x.1)
    (λ (v : ℕ). (v / 65536, v % 65536))
    (λ (v : ℕ). v < 4294967296)
    (pair u16 u16).Formed
    (λ v h. (omega arith, omega arith))
    (λ v h. omega arith)
    (λ b o h. h)
    u32_formed
    (λ b o v h z w e. w)

-- the codec of four bytes is that of the definitions
pub u32_value : (b : List ℕ) (o : ℕ) → u32.value b o ≡ u32_at b o
unfolding u32_at
u32_value b o = refl

pub u32_bytes_lem : (v : ℕ) → u32.bytes v ≡ u32_bytes v
unfolding u32_bytes
u32_bytes_lem v = refl

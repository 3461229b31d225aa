-- Values as bytes at an offset, and back: what is written is read back, and what is read from well-formed bytes is written as the same bytes.
--     Codec                 a value's width and bytes, and the value at an offset
--     byte, blank           a single byte; zero bytes
--     pair, named           two values one after the other; the same bytes under another type
--     restated              the same codec, written out another way
--     rows_in, rows_forth   the two ways for values in a row
--     rows_small, rows_made what is written in a row is bytes, and is formed
use mathlib.Core.Path.{◌≡◌, refl, sym, ap, ap₂, ◌∙◌, subst}
use mathlib.Core.List.{List, [], ◌∷◌, ◌++◌, append_assoc}
use Prim.Native.Nat.{ℕ, zero, suc, ◌+◌, ◌*◌, ◌≤◌, ◌<◌}
use native.Mathlib.Omega.{arith}
use lib.ListN.{get_or-append, length, get_or, take, drop, replicate, length-append, length-take, length-drop, length-replicate, get_or-replicate}
use lib.Seq.{get_or-append-add, get_or-append_seam, take-add, drop-drop, drop-cons, ext_get_or, get_or-take, get_or-drop}
use Rattle.lists.specs.All.{All}
use Rattle.lists.proofs.All.{all_append}
use Rattle.lists.specs.Rows.{rows, laid_rows}
use Rattle.lists.proofs.Rows.{rows_back}
use Rattle.lists.specs.Stride.{at}
use Rattle.lists.proofs.Stride.{at_zero, at_shift}
use Rattle.lists.specs.Bytes.{Bytes}

pub record Codec (A : Type 0) : Type 1 where
  pub width : ℕ
  -- the values that these bytes can hold
  pub Fits : A → Type 0
  pub bytes : A → List ℕ
  pub value : List ℕ → ℕ → A
  -- the bytes at an offset are those of a value
  pub Formed : List ℕ → ℕ → Type 0
  pub size : (a : A) → length (bytes a) ≡ width
  pub back : (pre : List ℕ) (a : A) (post : List ℕ) → Fits a → value (pre ++ (bytes a ++ post)) (length pre) ≡ a
  pub forth : (b : List ℕ) (o : ℕ) → o + width ≤ length b → Formed b o → bytes (value b o) ≡ take width (drop o b)
  -- what is written is bytes, and is formed
  pub small : (a : A) → Fits a → All (λ (x : ℕ). x < 256) (bytes a)
  pub made : (pre : List ℕ) (a : A) (post : List ℕ) → Fits a → Bytes (pre ++ (bytes a ++ post)) → Formed (pre ++ (bytes a ++ post)) (length pre)

pub byte_forth : (b : List ℕ) (o : ℕ) → o + 1 ≤ length b → get_or b o 0 ∷ [] ≡ take 1 (drop o b)
byte_forth b o h = rw (drop-cons b o 0 (omega arith)) refl

abbrev pub byte : Codec ℕ
byte = record {
  width = 1;
  Fits = λ (n : ℕ). n < 256;
  bytes = λ (n : ℕ). n ∷ [];
  value = λ (b : List ℕ) (o : ℕ). get_or b o 0;
  Formed = λ (b : List ℕ) (o : ℕ). Unit {0};
  size = λ n. refl;
  back = λ pre n post h. get_or-append_seam pre n post 0;
  forth = λ b o h w. byte_forth b o h;
  small = λ n h. (h, tt);
  made = λ pre n post h z. tt;
}

pub zero_run : (b : List ℕ) (o n : ℕ) → o + n ≤ length b → ((k : ℕ) → k < n → get_or b (o + k) 0 ≡ 0) → replicate n 0 ≡ take n (drop o b)
zero_run b o n h z =
    let long : length (take n (drop o b)) ≡ n = simp (length-take, length-drop) (omega arith) in
    ext_get_or 0 (replicate n 0) (take n (drop o b)) (length-replicate n 0 ∙ sym long)
    (λ i l. let m : i < n = omega (arith, length-replicate {A = ℕ} n 0) in
    get_or-replicate n i 0 0 m ∙ sym (get_or-take n (drop o b) i 0 m ∙ get_or-drop o b i 0 ∙ z i m))

pub zeros_small : (n : ℕ) → All (λ (x : ℕ). x < 256) (replicate n 0)
zeros_small zero = tt
zeros_small (suc n) = (omega arith, zeros_small n)

pub zeros_made : (pre : List ℕ) (n : ℕ) (post : List ℕ) (k : ℕ) → k < n → get_or (pre ++ (replicate n 0 ++ post)) (length pre + k) 0 ≡ 0
zeros_made pre n post k l =
    get_or-append-add pre (replicate n 0 ++ post) k 0
    ∙ get_or-append (replicate n 0) post 0 k (omega (arith, length-replicate {A = ℕ} n 0))
    ∙ get_or-replicate n k 0 0 l

-- n zero bytes, which say nothing
abbrev pub blank : ℕ → Codec (Unit {0})
blank n = record {
  width = n;
  Fits = λ (u : Unit {0}). Unit {0};
  bytes = λ (u : Unit {0}). replicate n 0;
  value = λ (b : List ℕ) (o : ℕ). tt;
  Formed = λ (b : List ℕ) (o : ℕ). (k : ℕ) → k < n → get_or b (o + k) 0 ≡ 0;
  size = λ u. length-replicate n 0;
  back = λ pre u post h. refl;
  forth = λ b o h w. zero_run b o n h w;
  small = λ u h. zeros_small n;
  made = λ pre u post h z. zeros_made pre n post;
}

module _ {A B : Type 0} (c : Codec A) (d : Codec B) where
  pub pair_size : (x : A × B) → length (c.bytes x.0 ++ d.bytes x.1) ≡ c.width + d.width
  pair_size x = length-append (c.bytes x.0) (d.bytes x.1) ∙ ap₂ ◌+◌ (c.size x.0) (d.size x.1)

  pub pair_back : (pre : List ℕ) (x : A × B) (post : List ℕ) → c.Fits x.0 × d.Fits x.1
      → ◌≡◌ {A = A × B} (c.value (pre ++ (c.bytes x.0 ++ d.bytes x.1 ++ post)) (length pre), d.value (pre ++ (c.bytes x.0 ++ d.bytes x.1 ++ post)) (length pre + c.width)) x
  pair_back pre x post h = λ i. (left i, right i)
    where
      left : c.value (pre ++ (c.bytes x.0 ++ d.bytes x.1 ++ post)) (length pre) ≡ x.0
      left = rw (append_assoc (c.bytes x.0) (d.bytes x.1) post) (c.back pre x.0 (d.bytes x.1 ++ post) h.0)

      right : d.value (pre ++ (c.bytes x.0 ++ d.bytes x.1 ++ post)) (length pre + c.width) ≡ x.1
      right = ap₂ d.value turn (sym (length-append pre (c.bytes x.0) ∙ ap (◌+◌ (length pre)) (c.size x.0))) ∙ d.back (pre ++ c.bytes x.0) x.1 post h.1
        where
          turn : pre ++ (c.bytes x.0 ++ d.bytes x.1 ++ post) ≡ pre ++ c.bytes x.0 ++ (d.bytes x.1 ++ post)
          turn = simp append_assoc

  pub pair_forth : (b : List ℕ) (o : ℕ) → o + (c.width + d.width) ≤ length b → c.Formed b o × d.Formed b (o + c.width)
      → c.bytes (c.value b o) ++ d.bytes (d.value b (o + c.width)) ≡ take (c.width + d.width) (drop o b)
  pair_forth b o h w =
      ap₂ ◌++◌ (c.forth b o (omega arith) w.0) (d.forth b (o + c.width) (omega arith) w.1 ∙ ap (take d.width) (sym (drop-drop c.width o b)))
      ∙ sym (take-add c.width d.width (drop o b))

  pub pair_made : (pre : List ℕ) (x : A × B) (post : List ℕ) → c.Fits x.0 × d.Fits x.1
      → Bytes (pre ++ (c.bytes x.0 ++ d.bytes x.1 ++ post))
      → c.Formed (pre ++ (c.bytes x.0 ++ d.bytes x.1 ++ post)) (length pre) × d.Formed (pre ++ (c.bytes x.0 ++ d.bytes x.1 ++ post)) (length pre + c.width)
  pair_made pre x post h z = (left, right)
    where
      one : pre ++ (c.bytes x.0 ++ d.bytes x.1 ++ post) ≡ pre ++ (c.bytes x.0 ++ (d.bytes x.1 ++ post))
      one = simp append_assoc

      two : pre ++ (c.bytes x.0 ++ d.bytes x.1 ++ post) ≡ (pre ++ c.bytes x.0) ++ (d.bytes x.1 ++ post)
      two = simp append_assoc

      left : c.Formed (pre ++ (c.bytes x.0 ++ d.bytes x.1 ++ post)) (length pre)
      left = subst (λ (l : List ℕ). c.Formed l (length pre)) (sym one) (c.made pre x.0 (d.bytes x.1 ++ post) h.0 (subst Bytes one z))

      long : length (pre ++ c.bytes x.0) ≡ length pre + c.width
      long = length-append pre (c.bytes x.0) ∙ ap (◌+◌ (length pre)) (c.size x.0)

      right : d.Formed (pre ++ (c.bytes x.0 ++ d.bytes x.1 ++ post)) (length pre + c.width)
      right = subst (λ (o : ℕ). d.Formed (pre ++ (c.bytes x.0 ++ d.bytes x.1 ++ post)) o) long
          (subst (λ (l : List ℕ). d.Formed l (length (pre ++ c.bytes x.0))) (sym two) (d.made (pre ++ c.bytes x.0) x.1 post h.1 (subst Bytes two z)))

  -- one value, and another behind it
  abbrev pub pair : Codec (A × B)
  pair = record {
    width = c.width + d.width;
    Fits = λ (x : A × B). c.Fits x.0 × d.Fits x.1;
    bytes = λ (x : A × B). c.bytes x.0 ++ d.bytes x.1;
    value = λ (b : List ℕ) (o : ℕ). (c.value b o, d.value b (o + c.width));
    Formed = λ (b : List ℕ) (o : ℕ). c.Formed b o × d.Formed b (o + c.width);
    size = pair_size;
    back = pair_back;
    forth = pair_forth;
    small = λ x h. all_append _ (c.bytes x.0) (d.bytes x.1) (c.small x.0 h.0) (d.small x.1 h.1);
    made = pair_made;
  }

-- the same bytes for another type: f names what was read, g takes it apart, and the bytes that are formed are those on which g undoes f;
-- bytes that hold what g took apart are formed
module _ {A B : Type 0} (c : Codec A) (f : A → B) (g : B → A) (Fits : B → Type 0) (Formed : List ℕ → ℕ → Type 0)
    (fits : (y : B) → Fits y → c.Fits (g y)) (there : (y : B) → Fits y → f (g y) ≡ y)
    (formed : (b : List ℕ) (o : ℕ) → Formed b o → c.Formed b o) (here : (b : List ℕ) (o : ℕ) → Formed b o → g (f (c.value b o)) ≡ c.value b o)
    (made : (b : List ℕ) (o : ℕ) (y : B) → Fits y → Bytes b → c.Formed b o → c.value b o ≡ g y → Formed b o) where
  abbrev pub named : Codec B
  named = record {
    width = c.width;
    Fits = Fits;
    bytes = λ (y : B). c.bytes (g y);
    value = λ (b : List ℕ) (o : ℕ). f (c.value b o);
    Formed = Formed;
    size = λ y. c.size (g y);
    back = λ pre y post h. ap f (c.back pre (g y) post (fits y h)) ∙ there y h;
    forth = λ b o h w. ap c.bytes (here b o w) ∙ c.forth b o h (formed b o w);
    small = λ y h. c.small (g y) (fits y h);
    made = λ pre y post h z. made (pre ++ (c.bytes (g y) ++ post)) (length pre) y h z (c.made pre (g y) post (fits y h) z) (c.back pre (g y) post (fits y h));
  }

-- the same codec, with its width, bytes and values written out another way
module _ {A : Type 0} (c : Codec A) (width : ℕ) (bytes : A → List ℕ) (value : List ℕ → ℕ → A)
    (same_width_lem : width ≡ c.width) (same_bytes : (a : A) → bytes a ≡ c.bytes a) (same_value : (b : List ℕ) (o : ℕ) → value b o ≡ c.value b o) where
  abbrev pub restated : Codec A
  restated = record {
    width = width;
    Fits = c.Fits;
    bytes = bytes;
    value = value;
    Formed = c.Formed;
    size = λ a. ap length (same_bytes a) ∙ c.size a ∙ sym same_width_lem;
    back = λ pre a post h. same_value (pre ++ (bytes a ++ post)) (length pre) ∙ ap (λ (l : List ℕ). c.value (pre ++ (l ++ post)) (length pre)) (same_bytes a) ∙ c.back pre a post h;
    forth = λ b o h w. same_bytes (value b o) ∙ ap c.bytes (same_value b o) ∙ c.forth b o (rw (← same_width_lem) h) w ∙ ap (λ (n : ℕ). take n (drop o b)) (sym same_width_lem);
    small = λ a h. subst (All (λ (x : ℕ). x < 256)) (sym (same_bytes a)) (c.small a h);
    made = λ pre a post h z. subst (λ (l : List ℕ). c.Formed (pre ++ (l ++ post)) (length pre)) (sym (same_bytes a))
        (c.made pre a post h (subst (λ (l : List ℕ). Bytes (pre ++ (l ++ post))) (same_bytes a) z));
  }

module _ {A : Type 0} (c : Codec A) where
  -- values that stand in a row somewhere in a list, at an offset
  pub rows_in : (xs : List A) (pre post b : List ℕ) (offset : ℕ) → b ≡ pre ++ (laid_rows c.bytes xs ++ post) → length pre ≡ offset → All c.Fits xs
      → rows (c.value b) c.width offset (length xs) ≡ xs
  rows_in xs pre post b offset e o h =
      ap₂ (λ (l : List ℕ) (k : ℕ). rows (c.value l) c.width k (length xs)) e (sym o)
      ∙ rows_back c.width c.bytes c.size c.Fits c.value c.back pre xs post h

  -- n rows from an offset on are formed
  abbrev pub RowsFormed : List ℕ → ℕ → ℕ → Type 0
  RowsFormed b o n = (i : ℕ) → i < n → c.Formed b (at o c.width i)

  pub rows_forth : (b : List ℕ) (o n : ℕ) → o + n * c.width ≤ length b → RowsFormed b o n → laid_rows c.bytes (rows (c.value b) c.width o n) ≡ take (n * c.width) (drop o b)
  rows_forth b o zero h w = let p : 0 ≡ 0 * c.width = omega arith in ap (λ (k : ℕ). take k (drop o b)) p
  rows_forth b o (suc n) h w =
      ap₂ ◌++◌ (c.forth b o (omega arith) (rw at_zero at (w 0 (omega arith))))
      (rows_forth b (o + c.width) n (omega arith) (λ i l. rw at_shift at (w (suc i) (omega arith))) ∙ ap (take (n * c.width)) (sym (drop-drop c.width o b)))
      ∙ sym (take-add c.width (n * c.width) (drop o b))
      ∙ (let p : c.width + n * c.width ≡ suc n * c.width = omega arith in ap (λ (k : ℕ). take k (drop o b)) p)

  -- rows that are written are bytes, and are formed
  pub rows_small : (xs : List A) → All c.Fits xs → All (λ (x : ℕ). x < 256) (laid_rows c.bytes xs)
  rows_small [] h = tt
  rows_small (x ∷ xs) h = all_append _ (c.bytes x) (laid_rows c.bytes xs) (c.small x h.0) (rows_small xs h.1)

  pub rows_made : (xs : List A) (pre post b : List ℕ) (offset : ℕ) → b ≡ pre ++ (laid_rows c.bytes xs ++ post) → length pre ≡ offset → All c.Fits xs → Bytes b
      → RowsFormed b offset (length xs)
  rows_made [] pre post b offset e o h z i l = absurd (omega arith)
  rows_made (x ∷ xs) pre post b offset e o h z zero l =
      let one : pre ++ ((c.bytes x ++ laid_rows c.bytes xs) ++ post) ≡ pre ++ (c.bytes x ++ (laid_rows c.bytes xs ++ post)) = simp append_assoc in
      rw (at_zero, ← o, e ∙ one) (c.made pre x (laid_rows c.bytes xs ++ post) h.0 (subst Bytes (e ∙ one) z))
  rows_made (x ∷ xs) pre post b offset e o h z (suc i) l =
      let two : pre ++ ((c.bytes x ++ laid_rows c.bytes xs) ++ post) ≡ (pre ++ c.bytes x) ++ (laid_rows c.bytes xs ++ post) = simp append_assoc in
      let long : length (pre ++ c.bytes x) ≡ offset + c.width = length-append pre (c.bytes x) ∙ ap₂ ◌+◌ o (c.size x) in
      rw at_shift (rows_made xs (pre ++ c.bytes x) post b (offset + c.width) (e ∙ two) long h.1 z i (omega arith))

-- a list of bytes has a byte at every place
pub small_bytes : (b : List ℕ) → All (λ (x : ℕ). x < 256) b → Bytes b
small_bytes [] h i = omega arith
small_bytes (x ∷ b) h zero = h.0
small_bytes (x ∷ b) h (suc i) = small_bytes b h.1 i

-- Numbers as the kit's words for big-endian bytes have them are those of the definitions.
use mathlib.Core.Path.{◌≡◌}
use mathlib.Core.List.{List, [], ◌∷◌}
use Prim.Native.Nat.{ℕ, ◌+◌, ◌/◌, ◌%◌, ◌<◌}
use native.Mathlib.Omega.{arith}
use lib.ListN.{get_or}
use Rattle.std.specs.Int.{w16, w32, to_be_bytes, from_be_bytes}
use Rattle.numbers.specs.BigEndian.{u16_at, u32_at, u16_bytes, u32_bytes}

module _ (b : List ℕ) (i : ℕ) where
  pub u16_read : from_be_bytes w16 (get_or b i 0 ∷ get_or b (i + 1) 0 ∷ []) ≡ u16_at b i
  unfolding u16_at
  u16_read = omega arith

  pub u32_read : from_be_bytes w32 (get_or b i 0 ∷ get_or b (i + 1) 0 ∷ get_or b (i + 2) 0 ∷ get_or b (i + 3) 0 ∷ []) ≡ u32_at b i
  unfolding u16_at u32_at
  u32_read = let e : i + 3 ≡ i + 2 + 1 = omega arith in rw e (omega arith)

pub u16_written : (v : ℕ) → v < 65536 → to_be_bytes w16 v ≡ u16_bytes v
unfolding u16_bytes
u16_written v h =
    let high : v / 256 % 256 ≡ v / 256 = omega arith in
    cc

pub u32_written : (v : ℕ) → v < 4294967296 → to_be_bytes w32 v ≡ u32_bytes v
unfolding u16_bytes u32_bytes
u32_written v h =
    let first : v / 16777216 % 256 ≡ v / 65536 / 256 = omega arith in
    let third : v / 256 % 256 ≡ v % 65536 / 256 = omega arith in
    let last : v % 256 ≡ v % 65536 % 256 = omega arith in
    cc

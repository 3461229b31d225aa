-- The offset of the i-th of equal parts behind a base.
use Prim.Native.Nat.{ℕ, suc, ◌+◌, ◌<◌, ◌≤◌}
use native.Mathlib.Nat.{mul-le-mul_right}
use native.Mathlib.Omega.{arith}
use mathlib.Core.Path.{◌≡◌}
use Rattle.lists.specs.Stride.{at}

module _ (base size : ℕ) where
  pub at_zero : at base size 0 ≡ base
  unfolding at
  at_zero = omega arith

  pub at_next : (i : ℕ) → at base size (i + 1) ≡ at base size i + size
  unfolding at
  at_next i = omega arith

  -- the i-th part ends within n parts
  pub at_fits : (i n : ℕ) → i < n → at base size i + size ≤ at base size n
  unfolding at
  at_fits i n l = omega (arith, mul-le-mul_right size l)

  pub at_base : (i : ℕ) → base ≤ at base size i
  unfolding at
  at_base i = omega arith

  -- the first part taken off
  pub at_shift : (i : ℕ) → at base size (suc i) ≡ at (base + size) size i
  unfolding at
  at_shift i = omega arith

-- The offset of the i-th of equal parts, as the code works it out: the product stays small.
use Prim.Native.Nat.{ℕ, ◌+◌, ◌*◌, ◌≤◌}
use native.Mathlib.Nat.{mul-le-mul}
use native.Mathlib.Omega.{arith}
use mathlib.Core.Path.{◌≡◌, refl}
use mir.Syntax.{w64}
use mir.Val.{Fits}
use Rattle.lists.specs.Stride.{at}

module _ (base size i : ℕ) (p : size ≤ 64) (q : i ≤ 65535) where
  product : i * size ≤ 4194304
  product = let h : i * size ≤ 65535 * 64 = mul-le-mul q p in omega arith

  pub stride_product : Fits w64 (i * size)
  stride_product = omega (arith, product)

  module _ (r : base ≤ 8388608) where
    pub stride_sum : Fits w64 (base + i * size)
    stride_sum = omega (arith, product)

    pub stride_is : base + i * size ≡ at base size i
    unfolding at
    stride_is = refl

    pub stride_low : base + i * size ≤ base + 4194304
    stride_low = omega (arith, product)

pub ruleset striding = (stride_product, stride_sum, stride_is, stride_low)

-- The offset of the i-th of equal parts behind a base. Callers use its laws and do not open the product.
use Rattle.std.specs.Prelude.{ℕ, ◌+◌, ◌*◌}

unfoldable pub at : ℕ → ℕ → ℕ → ℕ
at base size i = base + i * size

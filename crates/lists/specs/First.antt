-- The first of n places at which a test fails, or n where it fails at none: the one definition behind every "lowest place".
use Rattle.std.specs.Prelude.{ℕ, zero, suc, Bool, cond, eqb}

unfoldable pub first_bad : (ℕ → Bool) → ℕ → ℕ
first_bad ok zero = 0
first_bad ok (suc n) = cond (ok 0) (suc (first_bad (λ k. ok (suc k)) n)) 0

-- no place below n fails
unfoldable pub every : (ℕ → Bool) → ℕ → Bool
every ok n = eqb (first_bad ok n) n

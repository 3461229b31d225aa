-- A table of ids that rise strictly, by place.
use Rattle.std.specs.Prelude.{ℕ, zero, suc, ◌+◌, ◌<◌, not, eqb}
use Rattle.lists.specs.First.{first_bad}

-- the least id that may stand at place k: above the one before
unfoldable pub least : (ℕ → ℕ) → ℕ → ℕ
least ids zero = 0
least ids (suc k) = ids k + 1

unfoldable pub Rising : (ℕ → ℕ) → ℕ → Type 0
Rising ids n = (p q : ℕ) → p < q → q < n → ids p < ids q

-- the first place at which x stands, or n
unfoldable pub place : (ℕ → ℕ) → ℕ → ℕ → ℕ
place ids x n = first_bad (λ k. not (eqb (ids k) x)) n

-- What a loop gathers place by place: runs of bytes one behind another, what is kept, how many places meet a test, and a table.
use Rattle.std.specs.Prelude.{Bool, cond, List, [], ◌∷◌, ◌++◌, ℕ, zero, suc, ◌+◌}
use Rattle.std.proofs.Math.Option.{Option, none, some, Option-elim}

-- the runs of the places below n, one behind another
unfoldable pub joined : (ℕ → List ℕ) → ℕ → List ℕ
joined run zero = []
joined run (suc n) = joined run n ++ run n

-- what is kept at the places below n, in order
unfoldable pub gathered : {A : Type 0} → (ℕ → Option A) → ℕ → List A
gathered kept zero = []
gathered kept (suc n) = let rest = gathered (λ k. kept (suc k)) n in Option-elim (kept 0) rest (λ x. x ∷ rest)

-- how many places below n meet a test
unfoldable pub count : (ℕ → Bool) → ℕ → ℕ
count test zero = 0
count test (suc n) = count test n + cond (test n) 1 0

-- a table after the steps of the places below n
unfoldable pub table_after : {A : Type 0} → (ℕ → List A → List A) → ℕ → List A → List A
table_after step zero table = table
table_after step (suc n) table = step n (table_after step n table)

-- the bytes of what is kept, if anything is
abbrev pub laid_option : {A : Type 0} → (A → List ℕ) → Option A → List ℕ
laid_option bytes none = []
laid_option bytes (some x) = bytes x

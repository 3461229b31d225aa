-- Rows of one width, one after another: the values that stand at each row's offset, and values laid down.
use Rattle.std.specs.Prelude.{List, [], ◌∷◌, ◌++◌, ℕ, zero, suc, ◌+◌}

module _ {A : Type 0} (value : ℕ → A) (width : ℕ) where
  abbrev pub rows : ℕ → ℕ → List A
  rows offset zero = []
  rows offset (suc n) = value offset ∷ rows (offset + width) n

-- values laid down one after another
abbrev pub laid_rows : {A : Type 0} → (A → List ℕ) → List A → List ℕ
laid_rows bytes [] = []
laid_rows bytes (x ∷ xs) = bytes x ++ laid_rows bytes xs

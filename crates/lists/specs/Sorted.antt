-- Lists whose elements rise strictly by a key, and the element with a key.
use Rattle.std.specs.Prelude.{Bool, true, cond, ◌&&◌, List, [], ◌∷◌, ℕ, suc, ◌≤◌, eqb, leb}
use Rattle.std.proofs.Math.Option.{Option, none, some}

module _ {A : Type 0} (key : A → ℕ) where
  abbrev pub find : ℕ → List A → Option A
  find i [] = none
  find i (x ∷ xs) = cond (eqb (key x) i) (some x) (find i xs)

  -- every key is above the one before it, the first at least lo
  abbrev pub Rises : ℕ → List A → Type 0
  Rises lo [] = Unit {0}
  Rises lo (x ∷ xs) = (lo ≤ key x) × Rises (suc (key x)) xs

  abbrev pub rises : ℕ → List A → Bool
  rises lo [] = true
  rises lo (x ∷ xs) = leb lo (key x) && rises (suc (key x)) xs

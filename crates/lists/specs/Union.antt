-- The union of two lists that rise by a key: every element of both, by rising key. Of two elements with one key `meet` says what stands there.
--     either           what stands at a place, of what two say of it
--     into, union      an element with all that follows it, laid into a list; one list laid into another
use Rattle.std.specs.Prelude.{cond, List, [], ◌∷◌, ℕ, ltb}
use Rattle.std.proofs.Math.Option.{Option, none, some}

module _ {A : Type 0} (meet : A → A → A) where
  abbrev pub either : Option A → Option A → Option A
  either none y = y
  either (some x) none = some x
  either (some x) (some y) = some (meet x y)

module _ {A : Type 0} (key : A → ℕ) (meet : A → A → A) where
  -- `rest` lays what follows x into a list
  abbrev pub into : A → (List A → List A) → List A → List A
  into x rest [] = x ∷ rest []
  into x rest (y ∷ ys) = cond (ltb (key x) (key y)) (x ∷ rest (y ∷ ys)) (cond (ltb (key y) (key x)) (y ∷ into x rest ys) (meet x y ∷ rest ys))

  abbrev pub union : List A → List A → List A
  union [] ys = ys
  union (x ∷ xs) ys = into x (λ (zs : List A). union xs zs) ys

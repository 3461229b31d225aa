-- The elements of a list that meet a test, in order, and the first of them; and whether a value is there and meets one.
-- The library's `filter` goes by a decision of a proposition; this one goes by a test. `filter_map` is the library's.
use Rattle.std.specs.Prelude.{Bool, false, cond, List, [], ◌∷◌}
use Rattle.std.proofs.Math.Option.{Option, none, some}

module _ {A : Type 0} where
  abbrev pub filter : (A → Bool) → List A → List A
  filter p [] = []
  filter p (x ∷ xs) = cond (p x) (x ∷ filter p xs) (filter p xs)

  -- the first element that meets a test
  abbrev pub first_that : (A → Bool) → List A → Option A
  first_that p [] = none
  first_that p (x ∷ xs) = cond (p x) (some x) (first_that p xs)

-- whether there is a value, and it meets a test
abbrev pub holds : {B : Type 0} → (B → Bool) → Option B → Bool
holds q none = false
holds q (some y) = q y

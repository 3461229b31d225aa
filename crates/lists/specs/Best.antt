-- The best of two, where a test says which of two beats the other.
--     Decision, decided     a test made of decisions, one under the other
--     undecided             no decision tells the two apart
--     best                  the best of two by a test
use Rattle.std.specs.Prelude.{Bool, true, false, cond, ◌&&◌, List, [], ◌∷◌, ℕ, eqb, ltb}

-- A decision goes by a number that each of the two has: the lower wins, or the higher does. Equal numbers do not tell the two apart.
pub data Decision (A : Type 0) : Type 0 where
  lower : (A → ℕ) → Decision A
  higher : (A → ℕ) → Decision A

module _ {A : Type 0} where
  -- whether x beats y by the first decision that tells the two apart; where none does, it does not
  abbrev pub decided : List (Decision A) → A → A → Bool
  decided [] x y = false
  decided (lower number ∷ rest) x y = cond (eqb (number x) (number y)) (decided rest x y) (ltb (number x) (number y))
  decided (higher number ∷ rest) x y = cond (eqb (number y) (number x)) (decided rest x y) (ltb (number y) (number x))

  abbrev pub undecided : List (Decision A) → A → A → Bool
  undecided [] x y = true
  undecided (lower number ∷ rest) x y = eqb (number x) (number y) && undecided rest x y
  undecided (higher number ∷ rest) x y = eqb (number x) (number y) && undecided rest x y

module _ {A : Type 0} (beats : A → A → Bool) where
  -- the best of two: the second where it beats the first
  abbrev pub best : A → A → A
  best x y = cond (beats y x) y x

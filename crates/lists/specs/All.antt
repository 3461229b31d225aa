-- A fact at every element of a list, and tests over a list: whether all elements meet one, whether any does; whether two lists have the
-- same elements in the same order. A list of numbers that are all different.
-- The library's `any` and `all` do not compute outside their module, so these stand here, with the test first.
use Rattle.std.specs.Prelude.{Bool, true, false, ◌&&◌, ◌||◌, List, [], ◌∷◌, ◌≡◌, ℕ}

module _ {A : Type 0} where
  abbrev pub All : (A → Type 0) → List A → Type 0
  All P [] = Unit {0}
  All P (x ∷ xs) = P x × All P xs

  abbrev pub all : (A → Bool) → List A → Bool
  all p [] = true
  all p (x ∷ xs) = p x && all p xs

  abbrev pub any : (A → Bool) → List A → Bool
  any p [] = false
  any p (x ∷ xs) = p x || any p xs

-- as many elements, each alike to the other list's at its place
abbrev pub all_alike : {A : Type 0} → (A → A → Bool) → List A → List A → Bool
all_alike alike [] [] = true
all_alike alike [] (y ∷ ys) = false
all_alike alike (x ∷ xs) [] = false
all_alike alike (x ∷ xs) (y ∷ ys) = alike x y && all_alike alike xs ys

abbrev pub Distinct : List ℕ → Type 0
Distinct [] = Unit {0}
Distinct (x ∷ xs) = All (λ (y : ℕ). x ≡ y → ⊥) xs × Distinct xs

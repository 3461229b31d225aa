-- The numbers given back: an answer, or a refusal by number and place.
--     Answer, and_then     answers, and one call upon another's answer
--     row, NoneApplies    a row of a table of refusals; `first_applying` of Test gives the first that applies
use Rattle.std.specs.Prelude.{Bool, true, false, ◌≡◌, List, ℕ}
use Rattle.std.proofs.Math.Option.{Option, none, some, get_or}
use Rattle.lists.specs.All.{All}

pub data Answer (A : Type 0) : Type 0 where
  given : A → Answer A
  refused : (number place : ℕ) → Answer A

-- a call on what another call gave; a refusal stays as it is
abbrev pub and_then : {A B : Type 0} → Answer A → (A → Answer B) → Answer B
and_then (given x) f = f x
and_then (refused number place) f = refused number place

abbrev pub is_some : {A : Type 0} → Option A → Bool
is_some none = false
is_some (some x) = true

-- a row of a table of refusals that applies where there is a place
abbrev pub row : {A : Type 0} → ℕ → Option ℕ → Bool × Answer A
row number place = (is_some place, refused number (get_or place 0))

-- no row of a table applies
abbrev pub NoneApplies : {A : Type 0} → List (Bool × Answer A) → Type 0
NoneApplies {A} rows = All (λ (r : Bool × Answer A). r.0 ≡ false) rows

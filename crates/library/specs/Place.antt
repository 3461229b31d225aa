-- The place of a refusal as a number, beside its number (`number_in` of layout).
use Rattle.std.specs.Prelude.{ℕ}
use Rattle.lists.specs.Answer.{Answer, given, refused}

-- the place of an answer: 0 where nothing is refused
abbrev pub place_in : {A : Type 0} → Answer A → ℕ
place_in (given x) = 0
place_in (refused number place) = place

-- An outcome is known by its numbers: any two with the same answer are the same (one_outcome).
use mathlib.Core.Path.{◌≡◌, refl, sym, ap, ◌∙◌}
use Prim.Native.Nat.{ℕ}
use Rattle.std.specs.Prelude.{Result, Ok, Err}
use Rattle.lists.specs.Answer.{Answer, given, refused}
use Rattle.layout.proofs.Cases.{refusal_of, numbers_refusal}
use Rattle.outcomes.specs.Outcomes.{outcome_of}
use Rattle.layout.specs.declared.Refusal.{Refusal}

-- the outcome with an answer
unfoldable pub outcome_from : Answer ℕ → Result ℕ Refusal
outcome_from (given length) = Ok length
outcome_from (refused number place) = Err (refusal_of number place)

pub answer_outcome : (c : Result ℕ Refusal) → outcome_from (outcome_of c) ≡ c
unfolding outcome_from
answer_outcome (Ok length) = refl
answer_outcome (Err r) = ap Err (numbers_refusal r)

-- a contract that gives the answer allows one outcome
pub one_outcome : (a : Answer ℕ) (c d : Result ℕ Refusal) → outcome_of c ≡ a → outcome_of d ≡ a → c ≡ d
one_outcome a c d p q = sym (answer_outcome c) ∙ ap outcome_from (p ∙ sym q) ∙ answer_outcome d

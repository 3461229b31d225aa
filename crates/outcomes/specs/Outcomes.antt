-- Outcomes by the documents' numbers.
use Rattle.std.specs.Prelude.{ℕ, Result, Ok, Err}
use Rattle.lists.specs.Answer.{Answer, given}
use Rattle.layout.specs.Refusals.{refusing}
use Rattle.layout.specs.declared.Refusal.{Refusal}

-- the length of the record, or a refusal
abbrev pub outcome_of : Result ℕ Refusal → Answer ℕ
outcome_of (Ok length) = given length
outcome_of (Err r) = refusing r

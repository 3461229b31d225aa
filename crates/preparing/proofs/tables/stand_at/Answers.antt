-- An own box's route stands in its entry (stand_own), an input's in its node (stand_input).
use Rattle.preparing.proofs.StandLaws.{stands}
use borrow.Author.Rules.{rules}
use Rattle.preparing.proofs.tables.stand_at.Goals as goal

pub overflow_add-result : goal.overflow_add-result
overflow_add-result c = search (rules, stands)

pub overflow_add-result-then-is_own : goal.overflow_add-result-then-is_own
overflow_add-result-then-is_own c = search (rules, stands)

pub returns-then-is_own : goal.returns-then-is_own
returns-then-is_own c = search (rules, stands)

pub returns : goal.returns
returns c = search (rules, stands)

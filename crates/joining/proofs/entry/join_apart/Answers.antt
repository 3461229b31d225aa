-- 22 (joining_22).
use Rattle.joining.proofs.AnswerLaws.{joining_22}
use borrow.Author.Rules.{rules}
use Rattle.joining.proofs.entry.join_apart.Goals as goal

pub returns-in-Some-clause-answer : goal.returns-in-Some-clause-answer
returns-in-Some-clause-answer c = search (rules, joining_22)

pub returns-in-Some-clause-buffer : goal.returns-in-Some-clause-buffer
returns-in-Some-clause-buffer c = search (rules, joining_22)

pub join_matched-requires-clause-matched : goal.join_matched-requires-clause-matched
join_matched-requires-clause-matched c = search (rules, joining_22)

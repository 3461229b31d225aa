-- 23 (joining_23).
use Rattle.joining.proofs.AnswerLaws.{joining_23}
use borrow.Author.Rules.{rules}
use Rattle.joining.proofs.entry.join_matched.Goals as goal

pub join_alike-requires-clause-one_table : goal.join_alike-requires-clause-one_table
join_alike-requires-clause-one_table c = search (rules, joining_23)

pub returns-then-not-alike_policies-clause-answer : goal.returns-then-not-alike_policies-clause-answer
returns-then-not-alike_policies-clause-answer c = search (rules, joining_23)

pub returns-then-not-alike_policies-clause-buffer : goal.returns-then-not-alike_policies-clause-buffer
returns-then-not-alike_policies-clause-buffer c = search (rules, joining_23)

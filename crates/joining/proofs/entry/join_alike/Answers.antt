-- 24 by the two counts, then what is laid, and 20 (joining_24).
use Rattle.joining.proofs.AnswerLaws.{joining_24}
use Rattle.joining.proofs.CountLaws.{counting_joint}
use borrow.Author.Rules.{rules}
use Rattle.joining.proofs.entry.join_alike.Goals as goal

pub overflow_sub-nodes : goal.overflow_sub-nodes
overflow_sub-nodes c = search (rules, joining_24, counting_joint)

pub returns-then-form-nodes-clause-answer : goal.returns-then-form-nodes-clause-answer
returns-then-form-nodes-clause-answer c = search (rules, joining_24, counting_joint)

pub returns-then-form-nodes-clause-buffer : goal.returns-then-form-nodes-clause-buffer
returns-then-form-nodes-clause-buffer c = search (rules, joining_24, counting_joint)

pub returns-then-over-clause-answer : goal.returns-then-over-clause-answer
returns-then-over-clause-answer c = search (rules, joining_24, counting_joint)

pub returns-then-over-clause-buffer : goal.returns-then-over-clause-buffer
returns-then-over-clause-buffer c = search (rules, joining_24, counting_joint)

pub lay_joint-size-requires : goal.lay_joint-size-requires
lay_joint-size-requires c = search (rules, joining_24, counting_joint)

pub returns-clause-answer : goal.returns-clause-answer
returns-clause-answer c = search (rules, joining_24, counting_joint)

pub returns-clause-buffer : goal.returns-clause-buffer
returns-clause-buffer c = search (rules, joining_24, counting_joint)

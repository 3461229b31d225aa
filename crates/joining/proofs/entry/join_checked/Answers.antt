-- 21 (joining_21).
use Rattle.joining.proofs.AnswerLaws.{joining_21}
use borrow.Author.Rules.{rules}
use Rattle.joining.proofs.entry.join_checked.Goals as goal

pub returns-then-twice-n-clause-answer : goal.returns-then-twice-n-clause-answer
returns-then-twice-n-clause-answer c = search (rules, joining_21)

pub returns-then-twice-n-clause-buffer : goal.returns-then-twice-n-clause-buffer
returns-then-twice-n-clause-buffer c = search (rules, joining_21)

pub join_apart-requires : goal.join_apart-requires
join_apart-requires c = search (rules, joining_21)

-- The tests of the two ends, one behind another.
use Rattle.records.proofs.EdgeLaws.{ends}
use borrow.Author.Rules.{rules}
use Rattle.records.proofs.rows.TabledNetwork.ends_formed.Goals.{then-is_owned, else-is_owned}
use Rattle.records.proofs.rows.TabledNetwork.ends_formed.Goals as goal

pub returns-then-is_boxed : goal.returns-then-is_boxed
returns-then-is_boxed c = elim c.if-is_owned.branch [ then-is_owned w ↦ search (rules, ends) | else-is_owned w ↦ search (rules, ends) ]

pub returns-else-is_boxed : goal.returns-else-is_boxed
returns-else-is_boxed c = elim c.if-is_owned.branch [ then-is_owned w ↦ search (rules, ends) | else-is_owned w ↦ search (rules, ends) ]

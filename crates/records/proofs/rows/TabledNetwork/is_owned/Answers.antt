-- The table tells whether a node has the id, and the node whether it is an own one.
use Rattle.records.proofs.EdgeLaws.{owned_ids}
use borrow.Author.Rules.{rules}
use Rattle.records.proofs.rows.TabledNetwork.is_owned.Goals as goal

pub returns-then-is_boxed : goal.returns-then-is_boxed
returns-then-is_boxed c = search (rules, owned_ids)

pub returns-else-is_boxed : goal.returns-else-is_boxed
returns-else-is_boxed c = search (rules, owned_ids)

-- The table holds 0 just where no node has the id (boxed_is).
use Rattle.records.proofs.EdgeLaws.{boxed_is}
use borrow.Author.Rules.{rules}
use Rattle.records.proofs.rows.TabledNetwork.is_boxed.Goals as goal

pub returns : goal.returns
returns c = search (rules, boxed_is)

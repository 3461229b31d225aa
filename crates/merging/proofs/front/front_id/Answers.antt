-- The id in a row, or a number above all ids (id_fronts).
use Rattle.merging.proofs.NodeLaws.{id_fronts}
use borrow.Author.Rules.{rules}
use Rattle.merging.proofs.front.front_id.Goals as goal

pub returns-then-p-node_count : goal.returns-then-p-node_count
returns-then-p-node_count c = search (rules, id_fronts)

pub returns : goal.returns
returns c = search (rules, id_fronts)

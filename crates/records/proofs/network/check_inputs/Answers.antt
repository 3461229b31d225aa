-- One law for the row 10, and one for none.
use Rattle.records.proofs.NetworkRefusals.{inputs}
use borrow.Author.Rules.{rules}
use Rattle.records.proofs.network.check_inputs.Goals as goal

pub returns-then-input-node_count : goal.returns-then-input-node_count
returns-then-input-node_count c = search (rules, inputs)

pub returns : goal.returns
returns c = search (rules, inputs)

-- One law for the row 9, and one for the row below; the marks that 10 looks at were set for 9.
use Rattle.records.proofs.NetworkRefusals.{wires}
use Rattle.records.proofs.LeftLaws.{left_marked}
use borrow.Author.Rules.{rules}
use Rattle.records.proofs.network.check_wires.Goals as goal

pub returns-then-bad-edge_count : goal.returns-then-bad-edge_count
returns-then-bad-edge_count c = search (rules, wires)

pub check_inputs-requires : goal.check_inputs-requires
check_inputs-requires c = search (rules, left_marked)

pub returns : goal.returns
returns c = search (rules, wires)

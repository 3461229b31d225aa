-- One law for each of 7 and 8, and one for the rows below, which are read by the filled table.
use Rattle.records.proofs.NetworkRefusals.{nodes, nodes_here, nodes_rise, nodes_wires, wires_table}
use mathlib.Core.Path.{refl}
use borrow.Author.Rules.{rules}
use Rattle.records.proofs.network.check_nodes.Goals as goal

pub bad_node-node-requires : goal.bad_node-node-requires
bad_node-node-requires c = (search rules, search rules, search nodes_here)

pub returns-then-node-nodes : goal.returns-then-node-nodes
returns-then-node-nodes c = record { numbers = search nodes; table = refl }

pub returns-then-no_own : goal.returns-then-no_own
returns-then-no_own c = record { numbers = search nodes; table = refl }

pub check_wires-requires : goal.check_wires-requires
check_wires-requires c = search (rules, nodes_rise)

pub returns : goal.returns
returns c = record { numbers = search nodes_wires; table = search wires_table }

-- Between two turns what is laid and the union of what is left make up all nodes (NodeMerge).
use Rattle.merging.proofs.NodeLaws.{NodeMerge}
use Rattle.merging.proofs.node_merge.merge_nodes.Given as goal

abbrev pub invariant-loop : goal.invariant-loop
invariant-loop l = NodeMerge l.pair.first.form l.pair.first.bytes.now l.pair.second.bytes.now l.nodes l.initial.out l.out l.p l.q l.counter l.o

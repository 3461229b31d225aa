-- Between two turns what is laid and the union of what is left make up all edges (EdgeMerge); in every turn a row goes by (turn_less).
use Rattle.merging.proofs.EdgeLaws.{EdgeMerge}
use Prim.Native.Nat.{◌+◌, ◌-◌}
use Rattle.merging.proofs.edge_merge.merge_edges.Given as goal

abbrev pub invariant-loop-p : goal.invariant-loop-p
invariant-loop-p l = EdgeMerge l.pair.first.form l.pair.first.bytes.now l.pair.second.bytes.now l.initial.out l.out l.p l.q l.o

abbrev pub decreases-loop-p : goal.decreases-loop-p
decreases-loop-p l = l.edges - (l.p + l.q)

-- Before the k-th turn the k keys from the row on are below the limit (Run).
use Rattle.merging.proofs.EdgeLaws.{Run}
use Rattle.merging.proofs.edge_merge.run_below.Given as goal

abbrev pub invariant-loop-k : goal.invariant-loop-k
invariant-loop-k l = Run l.network.bytes.now l.limit l.n l.initial.at l.k l.at

-- Before the i-th turn every node before it is well formed, and the least id that may come is known (Noding).
use Rattle.nodes.proofs.NodeLaws.{Noding}
use Rattle.nodes.proofs.nodes.bad_node.Given as goal

abbrev pub invariant-loop-i : goal.invariant-loop-i
invariant-loop-i l = Noding l.form l.b l.n l.i l.o l.least

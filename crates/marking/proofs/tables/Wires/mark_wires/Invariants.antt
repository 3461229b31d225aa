-- Before the j-th turn the rows that the edges before it leave are marked, and the fragment's among them counted (Marking).
use Rattle.marking.proofs.MarkLaws.{Marking}
use Rattle.marking.proofs.tables.Wires.mark_wires.Given as goal

abbrev pub invariant-loop-j : goal.invariant-loop-j
invariant-loop-j l = Marking l.self.table.network.form l.self.table.network.bytes.now l.self.fragments.now l.self.k l.n l.j l.at l.kept l.initial.leaves l.initial.feeds l.leaves l.feeds

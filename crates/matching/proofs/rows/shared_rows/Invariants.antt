-- Before the i-th turn the shared rows before it are counted (Sharing).
use Rattle.matching.proofs.RowLaws.{Sharing}
use Rattle.matching.proofs.rows.shared_rows.Given as goal

abbrev pub invariant-loop-i : goal.invariant-loop-i
invariant-loop-i l = Sharing l.network.form l.network.bytes.now l.other.network.bytes.now l.n l.i l.shared

-- Before the i-th turn no row before it is an own node of the fragment (Seek).
use Rattle.lists.proofs.Walk.{Seek}
use Rattle.marking.specs.Tables.{outside}
use Rattle.marking.proofs.fragments.first_inside.Given as goal

abbrev pub invariant-loop-i : goal.invariant-loop-i
invariant-loop-i l = Seek (outside l.network.form l.network.bytes.now l.fragments l.k) l.n l.i

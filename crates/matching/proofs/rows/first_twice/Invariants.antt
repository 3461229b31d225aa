-- Before the i-th turn no row before it is owned by both (Seek).
use Rattle.lists.proofs.Walk.{Seek}
use Rattle.matching.specs.Rows.{owned_once}
use Rattle.layout.specs.Layout.{node_count}
use Rattle.matching.proofs.rows.first_twice.Given as goal

abbrev pub invariant-loop-i : goal.invariant-loop-i
invariant-loop-i l = Seek (owned_once l.network.form l.network.bytes.now l.other.network.bytes.now) (node_count l.network.bytes.now) l.i

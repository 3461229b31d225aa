-- Before the i-th turn every row before it is matched (Seek).
use Rattle.lists.proofs.Walk.{Seek}
use Rattle.matching.specs.Rows.{row_matched}
use Rattle.layout.specs.Layout.{node_count}
use Rattle.matching.proofs.rows.first_unmatched.Given as goal

abbrev pub invariant-loop-i : goal.invariant-loop-i
invariant-loop-i l = Seek (row_matched l.network.form l.network.bytes.now l.other.network.bytes.now) (node_count l.network.bytes.now) l.i

-- The wires below lo lead to lower boxes, and those from hi on do not (Around); each turn halves what is left.
use Rattle.boxes.proofs.WireLaws.{to_at}
use Rattle.lists.proofs.Rising.{Around}
use Prim.Native.Nat.{◌-◌}
use Rattle.boxes.proofs.wires.row_into.Given as goal

abbrev pub invariant-loop-lo : goal.invariant-loop-lo
invariant-loop-lo l = Around (to_at l.network.bytes.now l.base) l.initial.hi l.id l.lo l.hi

abbrev pub decreases-loop-lo : goal.decreases-loop-lo
decreases-loop-lo l = l.hi - l.lo

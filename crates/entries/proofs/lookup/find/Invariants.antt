-- The id stands neither below lo nor from hi on (Between); each turn halves what is left.
use Rattle.entries.specs.Entries.{id_at}
use Rattle.lists.proofs.Rising.{Between}
use Prim.Native.Nat.{◌-◌}
use Rattle.entries.proofs.lookup.find.Given as goal

abbrev pub invariant-loop-lo : goal.invariant-loop-lo
invariant-loop-lo l = Between (id_at l.b l.base l.size) l.n l.id l.lo l.hi

abbrev pub decreases-loop-lo : goal.decreases-loop-lo
decreases-loop-lo l = l.hi - l.lo

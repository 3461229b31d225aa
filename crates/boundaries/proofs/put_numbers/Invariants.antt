-- The offset stays within the room of as many parts as are stored.
use Prim.Native.Nat.{◌+◌, ◌*◌, ◌≤◌}
use Rattle.boundaries.proofs.put_numbers.Given as goal

abbrev pub invariant-loop-i : goal.invariant-loop-i
invariant-loop-i l = l.o ≤ l.base + 27 * l.i

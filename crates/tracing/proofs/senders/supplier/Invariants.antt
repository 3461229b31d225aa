-- The first wire from here on that gives the route is the first of all into the box (Supplying).
use Rattle.tracing.proofs.SenderLaws.{Supplying}
use Prim.Native.Nat.{◌-◌}
use lib.ListN.{length}
use Rattle.tracing.proofs.senders.supplier.Given as goal

abbrev pub invariant-loop-network : goal.invariant-loop-network
invariant-loop-network l = Supplying l.network.form l.network.bytes.now l.lookup.proposal.list.now l.id l.route l.wire

abbrev pub decreases-loop-network : goal.decreases-loop-network
decreases-loop-network l = length l.network.bytes.now - l.wire.at

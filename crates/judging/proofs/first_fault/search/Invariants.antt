-- Outer loop: the verdict from here is the verdict from the start (Searching). Inner loop: what the wires that are left make of
-- the route is the due route (Wiring). Each way out is one law of SearchLaws.
use Rattle.judging.proofs.SearchLaws.{Searching, Wiring}
use Prim.Native.Nat.{◌-◌}
use lib.ListN.{length}
use Rattle.judging.proofs.first_fault.search.Given as goal

abbrev pub invariant-loop-due : goal.invariant-loop-due
invariant-loop-due l = Wiring l.network.form l.network.bytes.now l.proposal.list.now l.row-end l.count l.row l.node l.due l.wire

abbrev pub decreases-loop-due : goal.decreases-loop-due
decreases-loop-due l = length l.network.bytes.now - l.wire.at

abbrev pub invariant-nodes : goal.invariant-nodes
invariant-nodes l = Searching l.network.form l.network.bytes.now l.proposal.list.now l.row-end l.row l.count l.wire

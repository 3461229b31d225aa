-- Before the i-th turn every policy before it is the other network's (Seek).
use Rattle.lists.proofs.Walk.{Seek}
use Rattle.matching.specs.Policies.{policy_alike}
use Rattle.matching.proofs.policies.first_unlike.Given as goal

abbrev pub invariant-loop-i : goal.invariant-loop-i
invariant-loop-i l = Seek (policy_alike l.pair.first.bytes.now l.pair.second.bytes.now) l.n l.i

-- Before the i-th turn every policy before it is well formed (Policies).
use Rattle.nodes.proofs.PolicyLaws.{Policies}
use Rattle.nodes.proofs.policies.bad_policy.Given as goal

abbrev pub invariant-loop-i : goal.invariant-loop-i
invariant-loop-i l = Policies l.b l.n l.i l.o

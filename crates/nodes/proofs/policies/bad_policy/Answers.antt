use Rattle.nodes.proofs.PolicyLaws.{policies, policy_rooms}
use Rattle.nodes.proofs.policies.bad_policy.Goals as goal

pub loop-i-init : goal.loop-i-init
loop-i-init c = search policies

pub policy_formed-requires : goal.policy_formed-requires
policy_formed-requires c = search policy_rooms

pub returns-then-not-policy_formed : goal.returns-then-not-policy_formed
returns-then-not-policy_formed c = search policies

pub overflow_add-o : goal.overflow_add-o
overflow_add-o c = search policy_rooms

pub loop-i-preserved : goal.loop-i-preserved
loop-i-preserved c = search policies

pub returns : goal.returns
returns c = search policies

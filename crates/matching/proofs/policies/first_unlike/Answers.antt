use Rattle.lists.proofs.Walk.{seeking}
use Rattle.matching.proofs.PolicyLaws.{policy_rows}
use borrow.Author.Rules.{rules}
use Rattle.matching.proofs.policies.first_unlike.Goals as goal

pub loop-i-init : goal.loop-i-init
loop-i-init c = search (rules, seeking, policy_rows)

pub policy_at-requires : goal.policy_at-requires
policy_at-requires c = search (rules, seeking, policy_rows)

pub policy_at-requires-in-loop-i : goal.policy_at-requires-in-loop-i
policy_at-requires-in-loop-i c = search (rules, seeking, policy_rows)

pub returns-then-not-same_policy : goal.returns-then-not-same_policy
returns-then-not-same_policy c = search (rules, seeking, policy_rows)

pub loop-i-preserved : goal.loop-i-preserved
loop-i-preserved c = search (rules, seeking, policy_rows)

pub returns : goal.returns
returns c = search (rules, seeking, policy_rows)

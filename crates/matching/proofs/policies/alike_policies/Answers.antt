-- As many, and none of them unlike.
use Rattle.matching.proofs.PolicyLaws.{likened}
use borrow.Author.Rules.{rules}
use Rattle.matching.proofs.policies.alike_policies.Goals as goal

pub returns-then-n-policy_count : goal.returns-then-n-policy_count
returns-then-n-policy_count c = search (rules, likened)

pub returns : goal.returns
returns c = search (rules, likened)

-- One law for each way over the wire: nothing arrives, need, bar, cost (twice), and through.
use Rattle.routes.proofs.WireLaws.{carrying}
use borrow.Author.Rules.{rules}
use Rattle.routes.proofs.wire.carry.Goals as goal

pub returns-in_default : goal.returns-in_default
returns-in_default c = search (rules, carrying)

pub returns-then-tags-need : goal.returns-then-tags-need
returns-then-tags-need c = search (rules, carrying)

pub returns-then-tags-policy-ne0 : goal.returns-then-tags-policy-ne0
returns-then-tags-policy-ne0 c = search (rules, carrying)

pub returns-then-top-cost : goal.returns-then-top-cost
returns-then-top-cost c = search (rules, carrying)

pub returns-then-top-cost-2 : goal.returns-then-top-cost-2
returns-then-top-cost-2 c = search (rules, carrying)

pub returns : goal.returns
returns c = search (rules, carrying)

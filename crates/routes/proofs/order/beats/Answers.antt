-- One law for each decision, in the order's own order.
use Rattle.routes.proofs.OrderLaws.{deciding}
use borrow.Author.Rules.{rules}
use Rattle.routes.proofs.order.beats.Goals as goal

pub returns-in_default : goal.returns-in_default
returns-in_default c = search (rules, deciding)

pub returns-then-x-y : goal.returns-then-x-y
returns-then-x-y c = search (rules, deciding)

pub returns-then-x-y-2 : goal.returns-then-x-y-2
returns-then-x-y-2 c = search (rules, deciding)

pub returns-then-x-y-3 : goal.returns-then-x-y-3
returns-then-x-y-3 c = search (rules, deciding)

pub returns : goal.returns
returns c = search (rules, deciding)

-- One law for each answer: there is no second route, and the two answers of beats.
use Rattle.routes.proofs.OrderLaws.{choosing}
use borrow.Author.Rules.{rules}
use Rattle.routes.proofs.order.better.Goals as goal

pub returns-in_default : goal.returns-in_default
returns-in_default c = search (rules, choosing)

-- A promise is a flag and a route.
use Rattle.counting.proofs.CountLaws.{promising_routes}
use borrow.Author.Rules.{rules}
use Rattle.counting.proofs.counts.promises_route.Goals as goal

pub returns-then-promising_at : goal.returns-then-promising_at
returns-then-promising_at c = search (rules, promising_routes)

pub returns-else-promising_at : goal.returns-else-promising_at
returns-else-promising_at c = search (rules, promising_routes)

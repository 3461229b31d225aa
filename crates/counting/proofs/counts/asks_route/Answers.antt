-- By the demand's kind.
use Rattle.counting.proofs.CountLaws.{asking_routes}
use borrow.Author.Rules.{rules}
use Rattle.counting.proofs.counts.asks_route.Goals as goal

pub returns-in-Hold : goal.returns-in-Hold
returns-in-Hold c = search (rules, asking_routes)

pub returns-in_default : goal.returns-in_default
returns-in_default c = search (rules, asking_routes, c.in_default.not-Hold)

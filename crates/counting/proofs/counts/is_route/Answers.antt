-- No route is none, and a held one is one.
use Rattle.counting.proofs.CountLaws.{routes}
use borrow.Author.Rules.{rules}
use Rattle.counting.proofs.counts.is_route.Goals as goal

pub returns-in-Held : goal.returns-in-Held
returns-in-Held c = search (rules, routes)

pub returns-in_default : goal.returns-in_default
returns-in_default c = search (rules, routes)

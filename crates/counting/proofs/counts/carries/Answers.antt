-- The part that the lookup hands back says the route that the node holds (carried).
use Rattle.counting.proofs.CountLaws.{carrying}
use borrow.Author.Rules.{rules}
use Rattle.counting.proofs.counts.carries.Goals as goal

pub route_at-requires : goal.route_at-requires
route_at-requires c = search (rules, carrying)

pub returns : goal.returns
returns c = search (rules, carrying)

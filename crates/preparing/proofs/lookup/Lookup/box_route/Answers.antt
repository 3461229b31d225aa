-- The bytes that are handed back for the box say what it holds (box_routes).
use Rattle.preparing.proofs.LookupLaws.{box_routes}
use borrow.Author.Rules.{rules}
use Rattle.preparing.proofs.lookup.Lookup.box_route.Goals as goal

pub route_at-requires : goal.route_at-requires
route_at-requires c = search (rules, box_routes)

pub returns : goal.returns
returns c = search (rules, box_routes)

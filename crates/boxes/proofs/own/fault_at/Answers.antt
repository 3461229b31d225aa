-- The part that the lookup hands back says the route that the list has for the box (held_fault).
use Rattle.boxes.proofs.BoxLaws.{held_faults}
use borrow.Author.Rules.{rules}
use Rattle.boxes.proofs.own.fault_at.Goals as goal

pub route_at-held-requires : goal.route_at-held-requires
route_at-held-requires c = search (rules, held_faults)

pub returns : goal.returns
returns c = search (rules, held_faults)

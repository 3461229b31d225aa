-- The sender's route by the lookup, and the policy by its number, make what the wire gives (offer_is).
use Rattle.boxes.proofs.WireLaws.{offers}
use borrow.Author.Rules.{rules}
use Rattle.boxes.proofs.wires.offer.Goals as goal

pub overflow_add-at : goal.overflow_add-at
overflow_add-at c = search (rules, offers)

pub bounds-network-at : goal.bounds-network-at
bounds-network-at c = search (rules, offers)

pub policy_at-policy-requires : goal.policy_at-policy-requires
policy_at-policy-requires c = search (rules, offers)

pub overflow_add-at-2 : goal.overflow_add-at-2
overflow_add-at-2 c = search (rules, offers)

pub u16_at-requires : goal.u16_at-requires
u16_at-requires c = search (rules, offers)

pub box_route-requires : goal.box_route-requires
box_route-requires c = search (rules, offers)

pub returns : goal.returns
returns c = search (rules, offers)

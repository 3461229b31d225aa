use Rattle.tracing.proofs.SenderLaws.{supplying}
use Rattle.boxes.proofs.WireLaws.{offers}
use Rattle.preparing.proofs.PreparedLaws.{prepared}
use borrow.Author.Rules.{rules}
use Rattle.tracing.proofs.senders.supplier.Goals as goal

pub wire_into-wire-requires : goal.wire_into-wire-requires
wire_into-wire-requires c = search prepared

pub loop-network-init : goal.loop-network-init
loop-network-init c = search (rules, supplying, prepared)

pub offer-requires : goal.offer-requires
offer-requires c = search supplying

pub overflow_add-wire : goal.overflow_add-wire
overflow_add-wire c = search (rules, supplying, offers)

pub u16_at-requires : goal.u16_at-requires
u16_at-requires c = search (rules, supplying, offers)

pub returns-then-same : goal.returns-then-same
returns-then-same c = search (rules, supplying)

pub wire_behind-wire-requires : goal.wire_behind-wire-requires
wire_behind-wire-requires c = (search (rules, prepared), search supplying)

pub loop-network-smaller : goal.loop-network-smaller
loop-network-smaller c = search (rules, supplying)

pub loop-network-preserved : goal.loop-network-preserved
loop-network-preserved c = search (rules, supplying)

pub returns : goal.returns
returns c = search (rules, supplying)

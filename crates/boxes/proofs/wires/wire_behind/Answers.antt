-- Five bytes behind a wire stands the next, or the record ends (wire_behind).
use Rattle.boxes.proofs.WireLaws.{wire_behinds}
use borrow.Author.Rules.{rules}
use Rattle.boxes.proofs.wires.wire_behind.Goals as goal

pub overflow_add-at : goal.overflow_add-at
overflow_add-at c = search (rules, wire_behinds)

pub wire_from-requires : goal.wire_from-requires
wire_from-requires c = search (rules, wire_behinds)

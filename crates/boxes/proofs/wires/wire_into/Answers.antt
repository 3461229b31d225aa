-- The row is that of a wire, or behind the last.
use Rattle.boxes.proofs.WireLaws.{wire_intos}
use borrow.Author.Rules.{rules}
use Rattle.boxes.proofs.wires.wire_into.Goals as goal

pub edge_offset-requires : goal.edge_offset-requires
edge_offset-requires c = search (rules, wire_intos)

pub wire_from-requires : goal.wire_from-requires
wire_from-requires c = search (rules, wire_intos)

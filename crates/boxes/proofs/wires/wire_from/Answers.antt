-- Behind the last wire there is none (wire_none), and else its to end is read (wire_some).
use Rattle.boxes.proofs.WireLaws.{wire_froms}
use borrow.Author.Rules.{rules}
use Rattle.boxes.proofs.wires.wire_from.Goals as goal

pub returns-then-network-at : goal.returns-then-network-at
returns-then-network-at c = search (rules, wire_froms)

pub u16_at-requires : goal.u16_at-requires
u16_at-requires c = search (rules, wire_froms)

pub returns : goal.returns
returns c = search (rules, wire_froms)

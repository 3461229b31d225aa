-- The first wire stands where the edges begin (first_is).
use Rattle.boxes.proofs.WireLaws.{wire_firsts}
use borrow.Author.Rules.{rules}
use Rattle.boxes.proofs.wires.first_wire.Goals as goal

pub returns : goal.returns
returns c = search (rules, wire_firsts)

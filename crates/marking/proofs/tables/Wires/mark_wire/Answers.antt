-- Both ends of a sound edge have rows, whose numbers say what is marked (edge_left, edge_fed).
use Rattle.marking.proofs.MarkLaws.{marking}
use borrow.Author.Rules.{rules}
use Rattle.marking.proofs.tables.Wires.mark_wire.Goals as goal

pub row_at-requires : goal.row_at-requires
row_at-requires c = (search (rules, marking), search (rules, marking))

pub overflow_add-at : goal.overflow_add-at
overflow_add-at c = search (rules, marking)

pub row_at-row-requires : goal.row_at-row-requires
row_at-row-requires c = (search (rules, marking), search (rules, marking))

pub returns : goal.returns
returns c = record { kept = search (rules, marking); left = search (rules, marking); fed = search (rules, marking) }

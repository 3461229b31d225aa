-- An edge out of order or ill formed leaves nothing and the marks; any other leaves its key and one and its mark.
use Rattle.records.proofs.LeftLaws.{edge_read}
use borrow.Author.Rules.{rules}
use Rattle.records.proofs.rows.TabledNetwork.read_edge.Goals as goal

pub u16_at-to-requires : goal.u16_at-to-requires
u16_at-to-requires c = search (rules, edge_read)

pub overflow_add-at : goal.overflow_add-at
overflow_add-at c = search (rules, edge_read)

pub u16_at-from-requires : goal.u16_at-from-requires
u16_at-from-requires c = search (rules, edge_read)

pub returns-then-key-low : goal.returns-then-key-low
returns-then-key-low c = search (rules, edge_read)

pub edge_formed-requires : goal.edge_formed-requires
edge_formed-requires c = search (rules, edge_read)

pub returns-then-not-edge_formed : goal.returns-then-not-edge_formed
returns-then-not-edge_formed c = search (rules, edge_read)

pub mark_left-requires : goal.mark_left-requires
mark_left-requires c = search (rules, edge_read)

pub returns : goal.returns
returns c = search (rules, edge_read)

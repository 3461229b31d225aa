-- The number of the row that the edge leads to decides whether it is laid (as_off, as_on).
use Rattle.laying.proofs.RowLaws.{reaching}
use Rattle.writing.proofs.RunLaws.{runs}
use borrow.Author.Rules.{rules}
use Rattle.laying.proofs.rows.lay_edge.Goals as goal

pub u16_at-requires : goal.u16_at-requires
u16_at-requires c = search (rules, reaching)

pub row_in-to-requires : goal.row_in-to-requires
row_in-to-requires c = search (rules, reaching)

pub returns-then-wires-to : goal.returns-then-wires-to
returns-then-wires-to c = record { size = search (reaching, runs); laid = search (reaching, runs) }

pub put_edge-requires : goal.put_edge-requires
put_edge-requires c = (search reaching, search reaching)

pub returns : goal.returns
returns c = record { size = search (reaching, runs); laid = search (reaching, runs) }

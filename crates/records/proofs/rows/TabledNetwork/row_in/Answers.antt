-- The table has one more than the row (rows_read).
use Rattle.records.proofs.RowLaws.{rows_read}
use borrow.Author.Rules.{rules}
use Rattle.records.proofs.rows.TabledNetwork.row_in.Goals as goal

pub overflow_sub-result : goal.overflow_sub-result
overflow_sub-result c = search (rules, rows_read)

pub returns : goal.returns
returns c = search (rules, rows_read)

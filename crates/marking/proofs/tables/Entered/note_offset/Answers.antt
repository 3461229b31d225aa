-- The note stands behind id and number of the entry that the table has for the row.
use Rattle.marking.proofs.RowLaws.{noting}
use borrow.Author.Rules.{rules}
use Rattle.marking.proofs.tables.Entered.note_offset.Goals as goal

pub overflow_add-result : goal.overflow_add-result
overflow_add-result c = search (rules, noting)

pub returns : goal.returns
returns c = search (rules, noting)

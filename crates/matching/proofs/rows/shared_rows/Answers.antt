use Rattle.matching.proofs.RowLaws.{sharing}
use borrow.Author.Rules.{rules}
use Rattle.matching.proofs.rows.shared_rows.Goals as goal

pub loop-i-init : goal.loop-i-init
loop-i-init c = search (rules, sharing)

pub overflow_add-shared : goal.overflow_add-shared
overflow_add-shared c = search (rules, sharing)

pub loop-i-preserved : goal.loop-i-preserved
loop-i-preserved c = search (rules, sharing)

use Rattle.marking.proofs.FragmentLaws.{numbering}
use borrow.Author.Rules.{rules}
use Rattle.marking.proofs.tables.Entered.number_rows.Goals as goal

pub loop-i-init : goal.loop-i-init
loop-i-init c = search (rules, numbering)

pub loop-i-preserved : goal.loop-i-preserved
loop-i-preserved c = search (rules, numbering)

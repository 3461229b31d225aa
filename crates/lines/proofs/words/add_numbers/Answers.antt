use Rattle.lines.proofs.Laws.{adding}
use borrow.Author.Rules.{rules}
use Rattle.lines.proofs.words.add_numbers.Goals as goal

pub loop-n-init : goal.loop-n-init
loop-n-init c = search (rules, adding)

pub loop-n-preserved : goal.loop-n-preserved
loop-n-preserved c = search (rules, adding)

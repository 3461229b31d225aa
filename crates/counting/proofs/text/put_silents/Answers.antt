use Rattle.counting.proofs.LineLaws.{silences}
use borrow.Author.Rules.{rules}
use Rattle.counting.proofs.text.put_silents.Goals as goal

pub loop-i-init : goal.loop-i-init
loop-i-init c = search (rules, silences)

pub loop-i-preserved : goal.loop-i-preserved
loop-i-preserved c = search (rules, silences)

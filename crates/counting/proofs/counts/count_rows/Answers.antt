use Rattle.counting.proofs.CountLaws.{countings}
use borrow.Author.Rules.{rules}
use Rattle.counting.proofs.counts.count_rows.Goals as goal

pub loop-i-init : goal.loop-i-init
loop-i-init c = search (rules, countings)

pub overflow_add-counted : goal.overflow_add-counted
overflow_add-counted c = search (rules, countings)

pub loop-i-preserved : goal.loop-i-preserved
loop-i-preserved c = search (rules, countings)

pub returns : goal.returns
returns c = search (rules, countings)

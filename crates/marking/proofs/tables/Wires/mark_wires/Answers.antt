use Rattle.marking.proofs.MarkLaws.{markings}
use borrow.Author.Rules.{rules}
use Rattle.marking.proofs.tables.Wires.mark_wires.Goals as goal

pub loop-j-init : goal.loop-j-init
loop-j-init c = search (rules, markings)

pub overflow_add-kept : goal.overflow_add-kept
overflow_add-kept c = search (rules, markings)

pub overflow_add-at : goal.overflow_add-at
overflow_add-at c = search (rules, markings)

pub loop-j-preserved : goal.loop-j-preserved
loop-j-preserved c = search (rules, markings)

pub returns : goal.returns
returns c = record { kept = search (rules, markings); left = search (rules, markings); fed = search (rules, markings) }

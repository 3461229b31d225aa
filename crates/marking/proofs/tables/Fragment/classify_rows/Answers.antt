use Rattle.marking.proofs.PieceLaws.{classifications}
use borrow.Author.Rules.{rules}
use Rattle.marking.proofs.tables.Fragment.classify_rows.Goals as goal

pub loop-i-init : goal.loop-i-init
loop-i-init c = search (rules, classifications)

pub overflow_add-kept : goal.overflow_add-kept
overflow_add-kept c = search (rules, classifications)

pub loop-i-preserved : goal.loop-i-preserved
loop-i-preserved c = search (rules, classifications)

pub returns : goal.returns
returns c = record { kept = search classifications; classified = search classifications }

use Rattle.records.proofs.LeftLaws.{edging, edging_start, edging_fits}
use borrow.Author.Rules.{rules}
use Rattle.records.proofs.rows.TabledNetwork.bad_edge.Goals as goal

pub loop-j-init : goal.loop-j-init
loop-j-init c = search edging_start

pub returns-in_default : goal.returns-in_default
returns-in_default c = record { bad = search (rules, edging); marks = search edging }

pub overflow_add-o : goal.overflow_add-o
overflow_add-o c = search edging_fits

pub loop-j-preserved : goal.loop-j-preserved
loop-j-preserved c = search edging

pub returns : goal.returns
returns c = record { bad = search (rules, edging); marks = search edging }

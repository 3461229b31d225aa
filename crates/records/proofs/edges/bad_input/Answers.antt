use Rattle.records.proofs.LeftLaws.{inputs}
use borrow.Author.Rules.{rules}
use Rattle.records.proofs.edges.bad_input.Goals as goal

pub loop-i-init : goal.loop-i-init
loop-i-init c = search (rules, inputs)

pub returns-then-not-input_left : goal.returns-then-not-input_left
returns-then-not-input_left c = search (rules, inputs)

pub loop-i-preserved : goal.loop-i-preserved
loop-i-preserved c = search (rules, inputs)

pub returns : goal.returns
returns c = search (rules, inputs)

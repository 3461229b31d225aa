use Rattle.preparing.proofs.StandLaws.{filling}
use borrow.Author.Rules.{rules}
use Rattle.preparing.proofs.tables.fill_stands.Goals as goal

pub loop-i-init : goal.loop-i-init
loop-i-init c = search (rules, filling)

pub loop-i-preserved : goal.loop-i-preserved
loop-i-preserved c = search (rules, filling)

pub returns : goal.returns
returns c = search (rules, filling)

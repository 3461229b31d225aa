use Rattle.lists.proofs.Walk.{seeking}
use borrow.Author.Rules.{rules}
use Rattle.marking.proofs.tables.Entered.first_clash.Goals as goal

pub loop-i-init : goal.loop-i-init
loop-i-init c = search (rules, seeking)

pub returns-then-not-keeps_promise : goal.returns-then-not-keeps_promise
returns-then-not-keeps_promise c = search (rules, seeking)

pub loop-i-preserved : goal.loop-i-preserved
loop-i-preserved c = search (rules, seeking)

pub returns : goal.returns
returns c = search (rules, seeking)

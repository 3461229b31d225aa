use Rattle.lists.proofs.Walk.{seeking}
use borrow.Author.Rules.{rules}
use Rattle.marking.proofs.fragments.first_inside.Goals as goal

pub loop-i-init : goal.loop-i-init
loop-i-init c = search (rules, seeking)

pub returns-then-not-is_outside : goal.returns-then-not-is_outside
returns-then-not-is_outside c = search (rules, seeking)

pub loop-i-preserved : goal.loop-i-preserved
loop-i-preserved c = search (rules, seeking)

pub returns : goal.returns
returns c = search (rules, seeking)

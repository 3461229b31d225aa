use Rattle.lists.proofs.Walk.{seeking}
use Rattle.matching.proofs.RowLaws.{rowing}
use borrow.Author.Rules.{rules}
use Rattle.matching.proofs.rows.first_unmatched.Goals as goal

pub loop-i-init : goal.loop-i-init
loop-i-init c = search (rules, seeking, rowing)

pub returns-then-not-row_matched : goal.returns-then-not-row_matched
returns-then-not-row_matched c = search (rules, seeking, rowing)

pub loop-i-preserved : goal.loop-i-preserved
loop-i-preserved c = search (rules, seeking, rowing)

pub returns : goal.returns
returns c = search (rules, seeking, rowing)

use Rattle.records.proofs.EnteredLaws.{placing}
use borrow.Author.Rules.{rules}
use Rattle.records.proofs.entered.place_entries.Goals as goal

pub loop-i-init : goal.loop-i-init
loop-i-init c = search (rules, placing)

pub returns-then-not-place_entry : goal.returns-then-not-place_entry
returns-then-not-place_entry c = record { first = search placing; table = search placing }

pub loop-i-preserved : goal.loop-i-preserved
loop-i-preserved c = search (rules, placing)

pub returns : goal.returns
returns c = record { first = search placing; table = search placing }

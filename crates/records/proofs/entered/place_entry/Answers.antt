-- One law for each way: an input, an own box without an entry, an own box with one.
use Rattle.records.proofs.EnteredLaws.{placing_one}
use borrow.Author.Rules.{rules}
use Rattle.records.proofs.entered.place_entry.Goals as goal

pub returns-then-not-is_own : goal.returns-then-not-is_own
returns-then-not-is_own c = search (rules, placing_one)

pub returns-then-entry_count-row : goal.returns-then-entry_count-row
returns-then-entry_count-row c = search (rules, placing_one)

pub returns : goal.returns
returns c = search (rules, placing_one)

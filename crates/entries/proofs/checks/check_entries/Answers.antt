-- One law for each row of the table from 11 to 12, and one for the rows below.
use Rattle.entries.proofs.EntryRefusals.{entries}
use Rattle.layout.proofs.OneForm.{told_usable}
use borrow.Author.Rules.{rules}
use Rattle.entries.proofs.checks.check_entries.Goals as goal

pub returns-then-n-lt7 : goal.returns-then-n-lt7
returns-then-n-lt7 c = search (rules, entries)

pub check_body-requires : goal.check_body-requires
check_body-requires c = search (rules, entries, told_usable)

pub returns-in_default : goal.returns-in_default
returns-in_default c = search (rules, entries)

pub returns : goal.returns
returns c = search (rules, entries)

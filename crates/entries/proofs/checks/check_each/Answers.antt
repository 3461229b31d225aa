-- One law for the row 16, and one for none.
use Rattle.entries.proofs.EntryRefusals.{each}
use Rattle.entries.proofs.checks.check_each.Goals as goal

pub returns-then-bad-count : goal.returns-then-bad-count
returns-then-bad-count c = search each

pub returns : goal.returns
returns c = search each

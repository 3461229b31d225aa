-- One law for each test that an entry can fail, and one for none.
use Rattle.entries.proofs.EntryLaws.{entry_forms}
use Rattle.entries.proofs.checks.entry_formed.Goals as goal

pub returns-then-not-fragment_formed : goal.returns-then-not-fragment_formed
returns-then-not-fragment_formed c = search entry_forms

pub returns : goal.returns
returns c = search entry_forms

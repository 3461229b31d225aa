-- The entries' ids rise, so halving finds the first place.
use Rattle.entries.proofs.LookupLaws.{entries_room_lem, entries_rise, entries_found}
use borrow.Author.Rules.{rules}
use Rattle.entries.proofs.lookup.EntriesRecord.entry_of.Goals as goal

pub find-requires : goal.find-requires
find-requires c = (search rules, search rules, search rules, search rules, search entries_room_lem, search entries_rise)

pub returns : goal.returns
returns c = search entries_found

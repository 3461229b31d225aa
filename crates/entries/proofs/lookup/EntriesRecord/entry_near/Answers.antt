-- The entry in the row is the one looked for, or the search by halving finds it.
use Rattle.entries.proofs.LookupLaws.{near_room, near_found}
use Rattle.entries.proofs.lookup.EntriesRecord.entry_near.Goals as goal

pub u16_at-requires : goal.u16_at-requires
u16_at-requires c = search near_room

pub returns : goal.returns
returns c = search near_found

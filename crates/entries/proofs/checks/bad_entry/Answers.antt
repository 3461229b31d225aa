use Rattle.entries.proofs.EntryLaws.{entering, entry_rooms}
use Rattle.entries.proofs.checks.bad_entry.Goals as goal

pub loop-i-init : goal.loop-i-init
loop-i-init c = search entering

pub u16_at-id-requires : goal.u16_at-id-requires
u16_at-id-requires c = search entry_rooms

pub returns-then-id-least : goal.returns-then-id-least
returns-then-id-least c = search entering

pub entry_formed-requires : goal.entry_formed-requires
entry_formed-requires c = search entry_rooms

pub returns-then-not-entry_formed : goal.returns-then-not-entry_formed
returns-then-not-entry_formed c = search entering

pub overflow_add-o : goal.overflow_add-o
overflow_add-o c = search entry_rooms

pub loop-i-preserved : goal.loop-i-preserved
loop-i-preserved c = search entering

pub returns : goal.returns
returns c = search entering

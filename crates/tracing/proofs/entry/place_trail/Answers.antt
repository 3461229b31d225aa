-- A room in which every trail fits gets it at once (trails); for another it is measured with a room of no bytes, and put where it fits (placing).
use Rattle.tracing.proofs.EntryLaws.{trails}
use Rattle.lines.proofs.Writing.{placing}
use borrow.Author.Rules.{rules}
use Rattle.tracing.proofs.entry.place_trail.Goals as goal

pub put_trail-requires : goal.put_trail-requires
put_trail-requires c = search (rules, trails, placing)

pub returns-then-longest_trail-out : goal.returns-then-longest_trail-out
returns-then-longest_trail-out c = record { count = search trails; short = search trails; text = search trails }

pub put_trail-length-requires : goal.put_trail-length-requires
put_trail-length-requires c = search (rules, trails, placing)

pub returns-then-out-length : goal.returns-then-out-length
returns-then-out-length c = record { count = search placing; short = search trails; text = search placing }

pub put_trail-requires-2 : goal.put_trail-requires-2
put_trail-requires-2 c = search (rules, trails, placing)

pub returns : goal.returns
returns c = record { count = search placing; short = search trails; text = search placing }

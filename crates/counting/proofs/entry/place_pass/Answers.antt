-- The text is measured with a room of no bytes, and put where it fits (placing).
use Rattle.lines.proofs.Writing.{placing}
use borrow.Author.Rules.{rules}
use Rattle.counting.proofs.entry.place_pass.Goals as goal

pub returns-then-out-length : goal.returns-then-out-length
returns-then-out-length c = search (rules, placing)

pub returns : goal.returns
returns c = search (rules, placing)

-- The line is measured with a room of no bytes, and put where it fits (placing).
use Rattle.lines.proofs.Writing.{placing}
use borrow.Author.Rules.{rules}
use Rattle.lines.proofs.answer.place_line.Goals as goal

pub returns-then-out-length : goal.returns-then-out-length
returns-then-out-length c = record { count = search (rules, placing); text = search (rules, placing) }

pub returns : goal.returns
returns c = record { count = search (rules, placing); text = search (rules, placing) }

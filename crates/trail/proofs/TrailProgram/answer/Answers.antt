-- The text fits in its room (trail_fits), and is what is read back from there (trail_read).
use Rattle.tracing.proofs.Lengths.{trail_fits, trail_read}
use borrow.Author.Rules.{rules}
use Rattle.trail.proofs.TrailProgram.answer.Goals as goal

pub returns : goal.returns
returns c = record { fits = search (rules, trail_fits); text = search (rules, trail_read) }

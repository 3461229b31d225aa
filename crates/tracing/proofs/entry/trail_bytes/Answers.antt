-- Over the bound, or shown.
use Rattle.tracing.proofs.EntryLaws.{trail_texts}
use Rattle.tracing.proofs.Lengths.{line_short}
use Rattle.lines.proofs.Answers.{answering}
use borrow.Author.Rules.{rules}
use Rattle.tracing.proofs.entry.trail_bytes.Goals as goal

pub returns-then-longest-input : goal.returns-then-longest-input
returns-then-longest-input c = record { count = search (answering, trail_texts); short = search line_short; text = search (answering, trail_texts) }

pub returns : goal.returns
returns c = record { count = search (answering, trail_texts); short = search rules; text = search (answering, trail_texts) }

-- 18 where no own box has the id; then a pass has its trail, and any other verdict its line alone (showings).
use Rattle.tracing.proofs.EntryLaws.{showings}
use Rattle.tracing.proofs.Lengths.{line_short}
use Rattle.lines.proofs.Answers.{answering}
use borrow.Author.Rules.{rules}
use Rattle.tracing.proofs.entry.place_shown.Goals as goal

pub returns-then-not-is_owned : goal.returns-then-not-is_owned
returns-then-not-is_owned c =
    let own = rw (c.table.ensures.form, c.table.ensures.network) at c.is_owned.ensures in
    record { count = search (answering, showings, own); short = search line_short; text = search (answering, showings, own) }

pub returns-in_default : goal.returns-in_default
returns-in_default c =
    let own = rw (c.table.ensures.form, c.table.ensures.network) at c.is_owned.ensures in
    let not_pass = c.in_default.not-Pass in
    record { count = search (answering, showings, not_pass, own); short = search line_short; text = search (answering, showings, not_pass, own) }

pub place_trail-requires : goal.place_trail-requires
place_trail-requires c =
    let own = rw (c.table.ensures.form, c.table.ensures.network) at c.is_owned.ensures in
    record { passing = search showings; id_value = search (showings, own) }

pub returns : goal.returns
returns c =
    let own = rw (c.table.ensures.form, c.table.ensures.network) at c.is_owned.ensures in
    record { count = search (answering, showings, own); short = search rules; text = search (answering, showings, own) }

-- The trail stops at an input and at a box that holds its own initial route, and else goes back to the supplier (senders).
use Rattle.tracing.proofs.SenderLaws.{senders}
use Rattle.tracing.proofs.senders.sender.Goals as goal

pub returns-then-not-is_own : goal.returns-then-not-is_own
returns-then-not-is_own c =
    let row = rw (c.table.ensures.form, c.table.ensures.network) at c.row_in-row.ensures.is in
    search (senders, row)

pub returns-then-same : goal.returns-then-same
returns-then-same c =
    let row = rw (c.table.ensures.form, c.table.ensures.network) at c.row_in-row.ensures.is in
    search (senders, row)

pub returns : goal.returns
returns c =
    let row = rw (c.table.ensures.form, c.table.ensures.network) at c.row_in-row.ensures.is in
    search (senders, row)

-- One law for each row of the table from 13 to 15, and one for the row below.
use Rattle.entries.proofs.EntryRefusals.{body}
use borrow.Author.Rules.{rules}
use Rattle.entries.proofs.checks.check_body.Goals as goal

pub returns-then-form-count : goal.returns-then-form-count
returns-then-form-count c = search (rules, body)

pub returns-then-u32_at-total : goal.returns-then-u32_at-total
returns-then-u32_at-total c = search (rules, body)

pub returns-then-n-total : goal.returns-then-n-total
returns-then-n-total c = search (rules, body)

pub returns-then-total-n : goal.returns-then-total-n
returns-then-total-n c = search (rules, body)

pub returns : goal.returns
returns c = search (rules, body)

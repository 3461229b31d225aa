-- One law for each count.
use Rattle.records.proofs.NetworkRefusals.{many}
use borrow.Author.Rules.{rules}
use Rattle.records.proofs.network.counts_over.Goals as goal

pub returns-then-form-u16_at : goal.returns-then-form-u16_at
returns-then-form-u16_at c = search (rules, many)

pub returns-then-u16_at-gt-MOST_EDGES : goal.returns-then-u16_at-gt-MOST_EDGES
returns-then-u16_at-gt-MOST_EDGES c = search (rules, many)

pub returns : goal.returns
returns c = search (rules, many)

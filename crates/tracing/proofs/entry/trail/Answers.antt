-- What is refused has its line alone, and of the rest something is shown.
use Rattle.tracing.proofs.EntryLaws.{entering}
use Rattle.tracing.proofs.Lengths.{line_short}
use Rattle.preparing.proofs.GivenLaws.{prepared_after}
use Rattle.lines.proofs.Answers.{answering}
use borrow.Author.Rules.{rules}
use Rattle.tracing.proofs.entry.trail.Goals as goal

pub new-requires : goal.new-requires
new-requires c =
    search (
      rules,
      prepared_after _ _ c.prepare.result c.prepare.ensures.numbers (λ i. (c.type_inv.network i).fits) (λ i. (c.type_inv.list i).fits),
    )

pub returns-in-Err : goal.returns-in-Err
returns-in-Err c = record { count = search (answering, entering); short = search line_short; text = search (answering, entering) }

pub returns-in-Ok : goal.returns-in-Ok
returns-in-Ok c = record { count = search (answering, entering); short = search rules; text = search (answering, entering) }

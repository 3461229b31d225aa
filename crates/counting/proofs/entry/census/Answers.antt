-- What is refused has its line alone, and the rest is judged.
use Rattle.counting.proofs.EntryLaws.{entering}
use Rattle.preparing.proofs.GivenLaws.{prepared_after}
use Rattle.lines.proofs.Answers.{answering}
use borrow.Author.Rules.{rules}
use Rattle.counting.proofs.entry.census.Goals as goal

pub new-requires : goal.new-requires
new-requires c =
    search (
      rules,
      prepared_after _ _ c.prepare.result c.prepare.ensures.numbers (λ i. (c.type_inv.network i).fits) (λ i. (c.type_inv.list i).fits),
    )

pub returns-in-Err : goal.returns-in-Err
returns-in-Err c = record { count = search (answering, entering); text = search (answering, entering) }

pub returns-in-Ok : goal.returns-in-Ok
returns-in-Ok c = record { count = search (answering, entering); text = search (answering, entering) }

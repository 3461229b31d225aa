-- Empty where something is refused before the search (asked_refused), and else the part of the id (asked_named).
use Rattle.judging.proofs.EntryLaws.{asking, asked_named}
use Rattle.preparing.proofs.GivenLaws.{prepared_after}
use borrow.Author.Rules.{rules}
use Rattle.judging.proofs.entry.neighbour.Goals as goal

pub new-requires : goal.new-requires
new-requires c =
    search (
      rules,
      prepared_after _ _ c.prepare.result c.prepare.ensures.numbers (λ i. (c.type_inv.network i).fits) (λ i. (c.type_inv.list i).fits),
    )

pub returns-in-Err : goal.returns-in-Err
returns-in-Err c = search (rules, asking)

pub returns-in-Ok : goal.returns-in-Ok
returns-in-Ok c =
    let named = rw (c.new.ensures.form, c.new.ensures.network, c.new.ensures.list) at c.named_part.ensures in
    asked_named _ _ _ c.prepare.ensures.numbers _ c.in-Ok.is _ _ named

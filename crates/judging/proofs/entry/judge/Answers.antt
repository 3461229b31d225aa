-- Refused before the search (judge_refused), or what the search answers (judge_searched).
use Rattle.judging.proofs.EntryLaws.{judging}
use Rattle.preparing.proofs.GivenLaws.{prepared_after}
use borrow.Author.Rules.{rules}
use Rattle.judging.proofs.entry.judge.Goals as goal

pub new-requires : goal.new-requires
new-requires c =
    search (
      rules,
      prepared_after _ _ c.prepare.result c.prepare.ensures.numbers (λ i. (c.type_inv.network i).fits) (λ i. (c.type_inv.list i).fits),
    )

pub returns-in-Err : goal.returns-in-Err
returns-in-Err c = search (rules, judging)

pub returns-in-Ok : goal.returns-in-Ok
returns-in-Ok c = search (rules, judging)

-- A suite does what the contracts of `judge`, `cut` and `join` ask, no more and no less: `Post` is what Rattle makes of their `ensures`, about the
-- arguments a, a result r and the arguments at exit e. So the code is a suite on all slices, and what is proved of every suite holds of it.
use mathlib.Core.Path.{◌≡◌, sym, ◌∙◌}
use mathlib.Core.Logic.{◌↔◌}
use contract.Lifetimes.{Lfts}
use denote.Triple.Clauses.{AtExit}
use borrow.Fn.World.{ArgsD, ResD}
use lib.ListN.{length}
use Rattle.judging.specs.Answers as judging
use Rattle.judging.specs.contracts.judge as the_judge
use Rattle.judging.proofs.judge.Reads as judge
use Rattle.outcomes.specs.Outcomes.{outcome_of}
use Rattle.cutting.specs.contracts.cut as the_cut
use Rattle.cutting.proofs.cut.Reads as cut
use Rattle.joining.specs.contracts.join as the_join
use Rattle.joining.proofs.join.Reads as join
use Rattle.promises.specs.Suite.{judge_answer, cut_answer, cut_leaves, join_answer, join_leaves}
use Rattle.promises.proofs.Answers.{leaves_buffer}
use Rattle.promises.proofs.JoinAnswers.{leaves_joint}
use Rattle.promises.proofs.Demand1.{judge_refuses, cut_refuses, join_refuses}

pub judge_contract : (κs : Lfts 1) (a : ArgsD the_judge.signature κs) (r : ResD the_judge.signature κs) (e : AtExit the_judge.ended κs)
    → judge.Post κs a r e ↔ (judging.answer_of r ≡ judge_answer a.0.now a.1.0.now)
judge_contract κs a r e = let same = judge_refuses a.0.now a.1.0.now in (λ p. p ∙ same, λ p. p ∙ sym same)

pub cut_contract : (κs : Lfts 3) (a : ArgsD the_cut.signature κs) (r : ResD the_cut.signature κs) (e : AtExit the_cut.ended κs)
    → cut.Post κs a r e
    ↔ ((outcome_of r ≡ cut_answer a.0.now a.1.0.now a.1.1.0 a.1.1.1.0.now)
    × (e.1.1.1.0.now ≡ cut_leaves a.0.now a.1.0.now a.1.1.0 a.1.1.1.0.now))
cut_contract κs a r e =
    let same = cut_refuses a.0.now a.1.0.now a.1.1.0 (length a.1.1.1.0.now) in
    let kept = leaves_buffer a.0.now a.1.0.now a.1.1.0 a.1.1.1.0.now in
    (λ p. (p.0 ∙ same, p.1 ∙ sym kept), λ p. (p.0 ∙ sym same, p.1 ∙ kept))

pub join_contract : (κs : Lfts 3) (a : ArgsD the_join.signature κs) (r : ResD the_join.signature κs) (e : AtExit the_join.ended κs)
    → join.Post κs a r e
    ↔ ((outcome_of r ≡ join_answer a.0.now a.1.0.now a.1.1.0.now)
    × (e.1.1.0.now ≡ join_leaves a.0.now a.1.0.now a.1.1.0.now))
join_contract κs a r e =
    let same = join_refuses a.0.now a.1.0.now (length a.1.1.0.now) in
    let kept = leaves_joint a.0.now a.1.0.now a.1.1.0.now in
    (λ p. (p.0 ∙ same, p.1 ∙ sym kept), λ p. (p.0 ∙ sym same, p.1 ∙ kept))

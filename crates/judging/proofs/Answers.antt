-- A verdict is known by its numbers and values: any two verdicts with the same answer are the same.
use mathlib.Core.Path.{◌≡◌, refl, sym, ap, ◌∙◌}
use mathlib.Core.Bool.{cond}
use lib.Dec.{eqb}
use Rattle.routes.specs.declared.Route.{Route}
use Rattle.lists.specs.Answer.{Answer, given, refused}
use Rattle.networks.specs.Judge.{Verdict as Judged, pass, found}
use Rattle.layout.proofs.Cases.{refusal_of, numbers_refusal}
use Rattle.judging.specs.Answers.{answer_of}
use Rattle.judging.specs.declared.Verdict.{Verdict}
use Rattle.judging.specs.declared.Verdict.TheVariants.{Pass, NotDue, PromiseBroken, DemandUnmet, Refused}

-- the verdict with an answer
unfoldable pub verdict_of : Answer (Judged Route) → Verdict
verdict_of (given (pass count)) = Pass count
verdict_of (given (found number node route count)) =
    cond (eqb number 31) (NotDue (record { node = node; count = count; route = route }))
    (cond (eqb number 32) (PromiseBroken (record { node = node; count = count; route = route }))
    (DemandUnmet (record { node = node; count = count; route = route })))
verdict_of (refused number place) = Refused (refusal_of number place)

pub answer_verdict : (v : Verdict) → verdict_of (answer_of v) ≡ v
unfolding verdict_of
answer_verdict (Pass count) = refl
answer_verdict (NotDue f) = refl
answer_verdict (PromiseBroken f) = refl
answer_verdict (DemandUnmet f) = refl
answer_verdict (Refused r) = ap Refused (numbers_refusal r)

-- the judge's contract allows one verdict
pub one_verdict : (a : Answer (Judged Route)) (v w : Verdict) → answer_of v ≡ a → answer_of w ≡ a → v ≡ w
one_verdict a v w p q = sym (answer_verdict v) ∙ ap verdict_of (p ∙ sym q) ∙ answer_verdict w

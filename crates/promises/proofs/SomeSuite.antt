-- There is a suite, so that the statements about every suite are about something: every answer that is asked of one is some verdict's, or some
-- outcome's, since the numbers of refusals and findings are those that an enum has a case for.
use mathlib.Core.Path.{◌≡◌, refl, ap, ◌∙◌}
use mathlib.Core.Bool.{Bool, true, false, cond, not, ◌||◌, false≢true}
use mathlib.Core.List.{List, [], ◌∷◌}
use mathlib.Core.Option.{Option, none, some, get_or}
use Prim.Native.Nat.{ℕ, suc}
use lib.Dec.{eqb, ltb}
use lib.ListN.{length}
use borrow.Author.Tests.{eqb-true}
use Rattle.lists.specs.All.{all}
use Rattle.lists.specs.Answer.{Answer, given, refused}
use Rattle.lists.specs.Test.{first_applying}
use Rattle.lists.proofs.Answer.{first_append, first_meets}
use Rattle.routes.specs.declared.Demand.{Demand}
use Rattle.routes.specs.declared.Route.{Route}
use Rattle.routes.specs.declared.Route.TheVariants.{None}
use Rattle.routes.specs.Demand.{meets}
use Rattle.routes.specs.Order.{same}
use Rattle.networks.specs.Judge.{Finding, Verdict as Judged, pass, found, held, breaks, first_finding, fault, stop, verdict_from}
use Rattle.networks.specs.Network.{Own, own_boxes}
use Rattle.networks.specs.Solution.{due, mapping}
use Rattle.layout.specs.Refusals.{number_of}
use Rattle.layout.proofs.Cases.{class_of}
use Rattle.reading.specs.Whole.{HouseNetwork, HouseList, network_of, list_of}
use Rattle.judging.specs.Answers as judging
use Rattle.judging.specs.declared.Verdict.TheVariants.{NotDue, PromiseBroken, DemandUnmet}
use Rattle.judging.proofs.Answers.{verdict_of}
use Rattle.outcomes.specs.Outcomes.{outcome_of}
use Rattle.outcomes.proofs.Outcomes.{outcome_from}
use Rattle.promises.specs.Calls.{house1}
use Rattle.promises.specs.Demand1.{judging_table, cutting_table, joining_table, fragment_record, joint_record}
use Rattle.promises.specs.Suite.{judge_answer, laying, cut_answer, cut_leaves, join_answer, join_leaves, Suite}

-- a number of a class
abbrev classed : ℕ → Bool
classed number = eqb (number_of (class_of number)) number

-- a number of a finding
abbrev named : ℕ → Bool
named number = eqb number 31 || (eqb number 32 || eqb number 33)

-- an answer whose number an enum has a case for
abbrev told : Answer (Judged Route) → Bool
told (given (pass count)) = true
told (given (found number node route count)) = named number
told (refused number place) = classed number

abbrev laid_told : Answer ℕ → Bool
laid_told (given n) = true
laid_told (refused number place) = classed number

abbrev finding_told : Option (Finding Route) → Bool
finding_told none = true
finding_told (some f) = named f.number

finding_told_lem : (x u : Route) (promise : Option Route) (demand : Demand) → finding_told (first_finding house1 x u promise demand) ≡ true
finding_told_lem x u promise demand = three (not (same x u)) (breaks house1 promise x) (not (meets demand x))
  where
    three : (s t r : Bool)
        → finding_told (cond s (some (record { number = 31; route = u })) (cond t (some (record { number = 32; route = get_or promise None }))
        (cond r (some (record { number = 33; route = x })) none))) ≡ true
    three true t r = refl
    three false true r = refl
    three false false true = refl
    three false false false = refl

fault_told : (N : HouseNetwork) (L : HouseList) (b : Own Route Demand) → finding_told (fault house1 N L b) ≡ true
unfolding fault
fault_told N L b = finding_told_lem (held house1 L b.id) (due house1 N (mapping house1 N L) b) b.promise b.demand

verdict_told : (N : HouseNetwork) (L : HouseList) (n : ℕ) (bs : List (Own Route Demand)) → told (given (verdict_from house1 N L n bs)) ≡ true
unfolding verdict_from
verdict_told N L n [] = refl
verdict_told N L n (b ∷ bs) = go (fault house1 N L b) (fault_told N L b) (verdict_from house1 N L (suc n) bs) (verdict_told N L (suc n) bs)
  where
    go : (o : Option (Finding Route)) → finding_told o ≡ true → (w : Judged Route) → told (given w) ≡ true
        → told (given (stop house1 o b.id (suc n) w)) ≡ true
    go none e w h = h
    go (some f) e w h = e

verdict_answer : (a : Answer (Judged Route)) → told a ≡ true → judging.answer_of (verdict_of a) ≡ a
unfolding verdict_of
verdict_answer (given (pass count)) e = refl
verdict_answer (refused number place) e = ap (λ (n : ℕ). refused n place) (eqb-true _ number e)
verdict_answer (given (found number node route count)) e = go (eqb number 31) refl (eqb number 32) refl (eqb number 33) refl e
  where
    go : (s : Bool) → eqb number 31 ≡ s → (t : Bool) → eqb number 32 ≡ t → (u : Bool) → eqb number 33 ≡ u → s || (t || u) ≡ true
        → judging.answer_of (cond s (NotDue (record { node = node; count = count; route = route }))
        (cond t (PromiseBroken (record { node = node; count = count; route = route }))
        (DemandUnmet (record { node = node; count = count; route = route })))) ≡ given (found number node route count)
    go true p t q u r h = rw (eqb-true number 31 p) refl
    go false p true q u r h = rw (eqb-true number 32 q) refl
    go false p false q true r h = rw (eqb-true number 33 r) refl
    go false p false q false r h = absurd (false≢true h)

outcome_answer : (a : Answer ℕ) → laid_told a ≡ true → outcome_of (outcome_from a) ≡ a
unfolding outcome_from
outcome_answer (given n) e = refl
outcome_answer (refused number place) e = ap (λ (n : ℕ). refused n place) (eqb-true _ number e)

-- so of a table with such numbers and 20 below it
laid_answer_lem : (rows : List (Bool × Answer ℕ)) (W out : List ℕ) → all (λ (r : Bool × Answer ℕ). laid_told r.1) rows ≡ true
    → outcome_of (outcome_from (laying rows W out)) ≡ laying rows W out
unfolding class_of
laid_answer_lem rows W out h = outcome_answer (laying rows W out)
    (ap laid_told (first_append rows last (given (length W))) ∙ first_meets laid_told rows (first_applying last (given (length W))) h
    (first_meets laid_told last (given (length W)) refl refl))
  where
    last : List (Bool × Answer ℕ)
    last = (ltb (length out) (length W), refused 20 (length W)) ∷ []

pub some_suite : Suite
unfolding class_of
some_suite = record {
  judge = λ network list. verdict_of (judge_answer network list);
  cut = λ network sheet k out. outcome_from (cut_answer network sheet k out);
  join = λ first second out. outcome_from (join_answer first second out);
  after = cut_leaves;
  after_join = join_leaves;
  judges = λ network list small list_small.
      let below = given (verdict_from house1 (network_of network) (list_of list) 0 (own_boxes (network_of network))) in
      verdict_answer (judge_answer network list) (first_meets told (judging_table network list) below refl
      (verdict_told (network_of network) (list_of list) 0 (own_boxes (network_of network))));
  cuts = λ network sheet k out small sheet_small asked out_small.
      (laid_answer_lem (cutting_table network sheet k) (fragment_record network sheet k) out refl, refl);
  joins = λ first second out small second_small out_small. (laid_answer_lem (joining_table first second) (joint_record first second) out refl, refl);
}

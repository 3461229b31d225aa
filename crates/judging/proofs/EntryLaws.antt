-- The entry points: what is refused before, and what the search or the lookup then answers.
--     judge_is          the refusals before the search and then the verdict are the judge's answer
--     judging, asking   as the judge and the lookup go
use mathlib.Core.Path.{◌≡◌, refl, sym, ap, ◌∙◌}
use mathlib.Core.List.{List, []}
use Prim.Native.Nat.{ℕ}
use Rattle.routes.specs.declared.Route.{Route}
use Rattle.lists.specs.Answer.{Answer, refused, and_then, given}
use Rattle.networks.specs.Judge.{Verdict, judge, judge_table}
use Rattle.entries.specs.Entries.{list_refusal}
use Rattle.records.specs.Network.{network_refusal}
use Rattle.layout.specs.Refusals.{check_answer, refusing}
use Rattle.std.proofs.Common.{Result, Ok, Err}
use Rattle.layout.specs.declared.Refusal.{Refusal}
use Rattle.reading.specs.Whole.{read_network, read_list, network_of, list_of}
use Rattle.judging.specs.Judging.{judge_records, verdict_at}
use Rattle.preparing.specs.Parts.{named_part}
use Rattle.judging.specs.Neighbour.{unless_refused, neighbour_bytes}
use Rattle.preparing.specs.Prepared.{lacking_refusal, prepare_refusal}
use Rattle.preparing.proofs.GivenLaws.{given_form}
use Rattle.layout.specs.declared.Form.{Form}
use Rattle.layout.specs.Form.{form_of}
use Rattle.lists.proofs.Answer.{first_then, given_same}
use Rattle.reading.specs.House.{house}
use Rattle.routes.specs.Carry.{highest}
use Rattle.records.proofs.Checked.{given_network}
use Rattle.layout.proofs.OneForm.{one_form}

module _ (network list : List ℕ) where
  -- 17, and then the verdict
  lacking_is : (f : Form)
      → judge (house highest) (read_network f network) (read_list f list) ≡ and_then (lacking_refusal f network list) (λ (g : Form). verdict_at g network list)
  unfolding judge lacking_refusal verdict_at
  lacking_is f = sym (first_then (judge_table (house highest) (read_network f network) (read_list f list)) (given f) (λ (g : Form). verdict_at g network list))

  pub judge_is : judge_records network list ≡ and_then (prepare_refusal network list) (λ (f : Form). verdict_at f network list)
  unfolding judge_records prepare_refusal
  judge_is = go (network_refusal network) (list_refusal list) refl refl
    where
      go : (a b : Answer Form) → network_refusal network ≡ a → list_refusal list ≡ b
          → and_then a (λ (f : Form). and_then b (λ (g : Form). judge (house highest) (network_of network) (list_of list)))
          ≡ and_then (and_then a (λ (f : Form). and_then b (λ (g : Form). lacking_refusal f network list))) (λ (f : Form). verdict_at f network list)
      go (refused n p) b q r = refl
      go (given f) (refused n p) q r = refl
      go (given f) (given g) q r =
          let own : form_of network ≡ f = given_same (sym (given_network network f q) ∙ q) in
          let one : form_of list ≡ f = one_form list network ∙ own in
          rw (own, one) (lacking_is f)

  module _ (c : Result Form Refusal) (h : check_answer c ≡ prepare_refusal network list) where
    pub judge_refused : (r : Refusal) → c ≡ Err r → refusing r ≡ judge_records network list
    judge_refused r e =
        let n : prepare_refusal network list ≡ refusing r = sym h ∙ ap check_answer e in
        sym (judge_is ∙ rw n)

    module _ (f : Form) (e : c ≡ Ok f) where
      told : prepare_refusal network list ≡ given f
      told = sym h ∙ ap check_answer e

      judge_verdict : verdict_at f network list ≡ judge_records network list
      judge_verdict = sym (judge_is ∙ rw told)

      pub judge_searched : (a : Answer (Verdict Route)) → a ≡ verdict_at f network list → a ≡ judge_records network list
      judge_searched a w = w ∙ judge_verdict

      pub asked_named : (id : ℕ) (x : List ℕ) → x ≡ named_part f network list id → x ≡ neighbour_bytes network list id
      unfolding neighbour_bytes verdict_at
      asked_named id x g =
          rw (given_form network list f told) (g ∙ ap (λ (a : Answer (Verdict Route)). unless_refused a (named_part f network list id)) judge_verdict)

    pub asked_refused : (id : ℕ) (r : Refusal) → c ≡ Err r → [] ≡ neighbour_bytes network list id
    unfolding neighbour_bytes
    asked_refused id r e = ap (λ (a : Answer (Verdict Route)). unless_refused a (named_part (form_of network) network list id)) (judge_refused r e)

pub ruleset judging = (judge_refused, judge_searched)

pub ruleset asking = (asked_named, asked_refused)

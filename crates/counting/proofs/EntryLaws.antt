-- The census of a list: by its verdict, and by what is refused before.
--     tally_is                   the counts together
--     judged_standing, verdicts  a pass is counted, and any other verdict has its line alone
--     entering                   what is refused has its line alone, and the rest is judged
--     census_texts               an input that is too long, and one that is counted
use mathlib.Core.Path.{◌≡◌, refl, sym, ap, ◌∙◌}
use mathlib.Core.List.{List, [], append-nil}
use Prim.Native.Nat.{ℕ, ◌-◌, ◌≤◌, ◌<◌}
use native.Mathlib.Nat.{sub-zero, zero-add}
use lib.ListN.{length, take, drop}
use Rattle.lists.specs.Answer.{given}
use Rattle.lists.proofs.Answer.{given_same}
use Rattle.routes.specs.Carry.{highest}
use Rattle.networks.specs.Judge.{pass}
use Rattle.networks.specs.Network.{own_boxes}
use Rattle.networks.proofs.Laws.Judging.{pass_verdict}
use Rattle.layout.specs.Form.{form_of}
use Rattle.layout.specs.Refusals.{check_answer, refusing}
use Rattle.std.proofs.Common.{Result, Ok, Err}
use Rattle.layout.specs.declared.Form.{Form}
use Rattle.layout.specs.declared.Refusal.{Refusal}
use Rattle.layout.proofs.OneForm.{one_form}
use Rattle.reading.specs.House.{house}
use Rattle.reading.specs.Whole.{read_network, read_list}
use Rattle.lines.specs.Line.{line_bytes}
use Rattle.lines.specs.Split.{first_length, first_record, rest_of}
use Rattle.lines.specs.declared.Line.{Line}
use Rattle.lines.specs.declared.Line.TheVariants.{Refused as Line-as-Refused}
use Rattle.lines.proofs.Answers.{bound_over, bound_kept}
use Rattle.lines.proofs.Splits.{rest_lent}
use Rattle.preparing.specs.Prepared.{prepare_refusal}
use Rattle.preparing.proofs.GivenLaws.{given_form}
use Rattle.preparing.proofs.PreparedLaws.{prepared_standing}
use Rattle.judging.specs.Answers.{answer_of}
use Rattle.judging.specs.Judging.{verdict_at}
use Rattle.judging.specs.Text.{verdict_line, judge_bound}
use Rattle.judging.specs.declared.Verdict.{Verdict}
use Rattle.judging.specs.declared.Verdict.TheVariants.{Pass, NotDue, PromiseBroken, DemandUnmet, Refused}
use Rattle.judging.proofs.EntryLaws.{judge_refused, judge_searched}
use Rattle.counting.specs.Counted.{counted_in}
use Rattle.counting.specs.Lines.{tally_of}
use Rattle.counting.specs.Rows.{pass_rows}
use Rattle.counting.specs.Text.{behind_pass, census_from, census_records, census_text}
use Rattle.counting.specs.declared.Counted.TheVariants.{Holding, Inputs, Assumed, Promises, Promised, Asked}
use Rattle.counting.specs.declared.Tally.{Tally}
use Rattle.counting.proofs.CensusLaws.{pass_census}

-- the counts together
pub tally_is : (f : Form) (network list : List ℕ) (boxes holding inputs assumed promises promised asked : ℕ)
    → holding ≡ counted_in f network list Holding → inputs ≡ counted_in f network list Inputs → assumed ≡ counted_in f network list Assumed
    → promises ≡ counted_in f network list Promises → promised ≡ counted_in f network list Promised → asked ≡ counted_in f network list Asked
    → record { boxes = boxes; holding = holding; inputs = inputs; assumed = assumed; promises = promises; promised = promised; asked = asked } ≡ tally_of f network list boxes
unfolding tally_of
tally_is f network list boxes _ _ _ _ _ _ a b c d e g = rw (a, b, c, d, e, g)

-- by the verdict
module _ (f : Form) (network list : List ℕ) (v : Verdict) (h : answer_of v ≡ verdict_at f network list) where
  abbrev told : List ℕ
  told = census_from f network list (verdict_at f network list)

  module _ (boxes : ℕ) (e : v ≡ Pass boxes) where
    verdict_is : verdict_at f network list ≡ given (pass boxes)
    verdict_is = sym h ∙ ap answer_of e

    all_judged : boxes ≡ length (own_boxes (read_network f network))
    unfolding verdict_at
    all_judged = (pass_verdict (house highest) (read_network f network) (read_list f list) 0 boxes (own_boxes (read_network f network)) (given_same verdict_is)).1 ∙ zero-add _

    pub pass_told : (t : Tally) → t ≡ tally_of f network list boxes → pass_rows f network list t ≡ told
    unfolding census_from verdict_line
    pass_told t q = rw (q, verdict_is) (pass_census f network list boxes all_judged)

  module _ (k : (n : ℕ) → v ≡ Pass n → ⊥) (l : Line) (m : line_bytes l ≡ verdict_line (answer_of v)) where
    nothing_behind : (lines : List ℕ) → behind_pass (answer_of v) lines ≡ []
    nothing_behind lines = go v k
      where
        go : (w : Verdict) → ((n : ℕ) → w ≡ Pass n → ⊥) → behind_pass (answer_of w) lines ≡ []
        go (Pass n) j = absurd (j n refl)
        go (NotDue x) j = refl
        go (PromiseBroken x) j = refl
        go (DemandUnmet x) j = refl
        go (Refused r) j = refl

    pub line_told : line_bytes l ≡ told
    unfolding census_from
    line_told = m ∙ rw (← h, nothing_behind _) (sym (append-nil (verdict_line (answer_of v))))

pub ruleset verdicts = (prepared_standing, pass_told, line_told)

-- by what is refused before
module _ (network list : List ℕ) (c : Result Form Refusal) (h : check_answer c ≡ prepare_refusal network list) where
  module _ (r : Refusal) (e : c ≡ Err r) (l : Line) (m : line_bytes l ≡ verdict_line (answer_of (Refused r))) where
    pub refused_told : line_bytes l ≡ census_records network list
    unfolding census_records
    refused_told = m ∙ rw (← judge_refused network list c h r e) (sym (append-nil (verdict_line (refusing r))))

  module _ (f : Form) (e : c ≡ Ok f) where
    judged_told_lem : census_from f network list (verdict_at f network list) ≡ census_records network list
    unfolding census_from census_records
    judged_told_lem =
        let own : form_of network ≡ f = given_form network list f (sym h ∙ ap check_answer e) in
        let one : form_of list ≡ f = one_form list network ∙ own in
        rw (own, one, judge_searched network list c h f e (verdict_at f network list) refl)

    -- the lookup is in these records
    pub judged_told : (g : Form) (n l : List ℕ) → g ≡ f → n ≡ network → l ≡ list → census_from g n l (verdict_at g n l) ≡ census_records network list
    judged_told g n l p q r = rw (p, q, r) judged_told_lem

pub ruleset entering = (refused_told, judged_told)

-- by the input's length
module _ (input : List ℕ) (bound : ℕ) (b : bound ≡ judge_bound) where
  module _ (h : bound < length input) where
    pub over_told : line_bytes (Line-as-Refused 5 bound) ≡ census_text input
    unfolding census_text line_bytes
    over_told = rw b (bound_over judge_bound input _ (rw b at h))

  module _ (first : ℕ) (h : length input ≤ bound) (e : first ≡ first_length input) where
    abbrev counted : List ℕ
    counted = census_records (take (first - 0) (drop 0 input)) (take (length input - first) (drop first input))

    pub input_told : counted ≡ census_text input
    unfolding census_text
    input_told =
        let same : counted ≡ census_records (first_record input) (rest_of input) = rw (sub-zero, rest_lent, e) in
        same ∙ bound_kept judge_bound input _ (rw b at h)

pub ruleset census_texts = (over_told, input_told)

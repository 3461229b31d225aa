-- What is shown of a box: by whether it is an own one, by the verdict, and by what is refused before.
--     trails                     a room in which every trail fits
--     showings                   18, a pass and its trail, and any other verdict, which has its line alone
--     entering                   what is refused has its line alone, and of the rest something is shown
--     trail_texts                an input that is too long, and one that is read
use mathlib.Core.Path.{◌≡◌, refl, sym, ap, ◌∙◌}
use mathlib.Core.Bool.{Bool, true, false, not}
use mathlib.Core.List.{List}
use Prim.Native.Nat.{ℕ, ◌+◌, ◌-◌, ◌^◌, ◌≤◌, ◌<◌, min}
use native.Mathlib.Nat.{sub-zero}
use native.Mathlib.Omega.{arith}
use lib.ListN.{length, take, drop, length-drop}
use lib.Seq.{drop-drop}
use borrow.Author.Tests.{not-true, not-false}
use Rattle.lists.specs.Answer.{Answer, and_then}
use Rattle.lists.specs.Laid.{placed}
use Rattle.lists.proofs.Laid.{placed_fits, stored_over}
use Rattle.lists.proofs.Test.{and_l}
use Rattle.routes.specs.Carry.{highest}
use Rattle.routes.specs.declared.Route.{Route}
use Rattle.networks.specs.Judge.{Verdict as Judged}
use Rattle.networks.specs.Network.{owns}
use Rattle.networks.specs.Trail.{Shown, showing}
use Rattle.layout.specs.Form.{form_of}
use Rattle.layout.specs.Refusals.{check_answer}
use Rattle.std.proofs.Common.{Result, Ok, Err}
use Rattle.layout.specs.declared.Class.TheVariants.{NoSuchOwn}
use Rattle.layout.specs.declared.Form.{Form}
use Rattle.layout.specs.declared.Refusal.{Refusal}
use Rattle.layout.proofs.OneForm.{one_form}
use Rattle.nodes.specs.Node.{row_of, is_own}
use Rattle.records.specs.Edge.{boxed, owned}
use Rattle.reading.specs.House.{house}
use Rattle.reading.specs.Whole.{read_network, read_list}
use Rattle.reading.proofs.Said.{owns_read}
use Rattle.lines.specs.Line.{line_bytes, longest_box_line}
use Rattle.lines.specs.Split.{first_length, first_record, rest_of, named_of, behind_named}
use Rattle.lines.specs.Written.{Written}
use Rattle.lines.specs.declared.Line.{Line}
use Rattle.lines.specs.declared.Line.TheVariants.{Refused as Line-as-Refused}
use Rattle.lines.proofs.Answers.{bound_over, bound_kept}
use Rattle.lines.proofs.Splits.{rest_lent, rest_named}
use Rattle.preparing.specs.Prepared.{Prepared, prepare_refusal}
use Rattle.preparing.proofs.GivenLaws.{given_form}
use Rattle.judging.specs.Answers.{answer_of}
use Rattle.judging.specs.Judging.{verdict_at}
use Rattle.judging.specs.Text.{verdict_line, naming_bound}
use Rattle.judging.specs.declared.Verdict.{Verdict}
use Rattle.judging.specs.declared.Verdict.TheVariants.{Pass, NotDue, PromiseBroken, DemandUnmet, Refused}
use Rattle.judging.proofs.EntryLaws.{judge_refused, judge_searched}
use Rattle.tracing.specs.Text.{trail_from, shown_text, output_at, trail_output, longest_trail, trail_text}
use Rattle.tracing.specs.Tracing.{show_records, shown_at, Passing}
use Rattle.tracing.proofs.Lengths.{from_short}

-- the trail of an own box
module _ (f : Form) (network list rows stands : List ℕ) (h : Prepared f network list rows stands) (p : Passing f network list) (id : ℕ) (o : owned f network id ≡ true) where
  short : length (trail_from f network list id) ≤ longest_trail
  short = from_short f network list rows stands h p id o

  pub trail_room : 0 + (length (trail_from f network list id) + longest_box_line) < 2 ^ 64
  trail_room = let s = short in omega arith

  pub put_short : (a b : List ℕ) (r : ℕ) → Written (trail_from f network list id) a 0 b r → r ≤ longest_trail
  unfolding Written
  put_short a b r w = let l = w.1 in let s = short in omega arith

  -- a room in which every trail fits
  module _ (out out' : List ℕ) (r : ℕ) (longest : ℕ) (l : longest ≡ longest_trail) (w : Written (trail_from f network list id) out 0 out' r) where
    pub roomy_count : longest ≤ length out → r ≡ length (trail_from f network list id)
    unfolding Written
    roomy_count m = let b = w.1 in omega arith

    pub roomy_placed : longest ≤ length out → out' ≡ placed (trail_from f network list id) out
    unfolding Written
    roomy_placed m =
        let s = short in
        placed_fits (trail_from f network list id) out out' (omega arith) (stored_over out out' (trail_from f network list id) (omega arith) w.0)

pub owned_boxed : (f : Form) (network : List ℕ) (id : ℕ) → owned f network id ≡ true → boxed f network id ≡ true
unfolding owned
owned_boxed f network id o = and_l (boxed f network id) (is_own f network (row_of f network id)) o

pub ruleset trails = (owned_boxed, trail_room, put_short, roomy_count, roomy_placed)

-- by whether the box is an own one, and by the verdict
module _ (f : Form) (network list : List ℕ) (id : ℕ) (t : Bool) (o : t ≡ owned f network id) where
  abbrev told : List ℕ
  told = output_at f network list id

  -- what is shown after an answer of the judge
  abbrev after : Answer (Judged Route) → Answer (Shown Route)
  after a = and_then a (showing (house highest) (read_network f network) (read_list f list) id)

  owns_is : owns (read_network f network) id ≡ t
  owns_is = owns_read f network id ∙ sym o

  pub none_told : (wide : ℕ) (l : Line) → not t ≡ true → wide ≡ id → line_bytes l ≡ verdict_line (answer_of (Refused (record { class = NoSuchOwn; place = wide })))
      → line_bytes l ≡ told
  unfolding output_at shown_at verdict_at showing shown_text verdict_line
  none_told wide l z q m = m ∙ rw (q, owns_is, not-true t z)

  module _ (z : not t ≡ false) (v : Verdict) (h : answer_of v ≡ verdict_at f network list) where
    pub owned_told : owned f network id ≡ true
    owned_told = sym o ∙ not-false t z

    module _ (boxes : ℕ) (e : v ≡ Pass boxes) where
      pub pass_told : Passing f network list
      unfolding Passing
      pass_told = (boxes, sym h ∙ ap answer_of e)

      pub trail_told : trail_from f network list id ≡ told
      unfolding output_at shown_at showing shown_text trail_from
      trail_told = rw (← h, e, owns_is, not-false t z)

    module _ (k : (n : ℕ) → v ≡ Pass n → ⊥) (l : Line) (m : line_bytes l ≡ verdict_line (answer_of v)) where
      alone : verdict_line (answer_of v) ≡ shown_text (after (answer_of v))
      unfolding showing shown_text verdict_line
      alone = go v k
        where
          go : (w : Verdict) → ((n : ℕ) → w ≡ Pass n → ⊥) → verdict_line (answer_of w) ≡ shown_text (after (answer_of w))
          go (Pass n) j = absurd (j n refl)
          go (NotDue x) j = rw (owns_is, not-false t z)
          go (PromiseBroken x) j = rw (owns_is, not-false t z)
          go (DemandUnmet x) j = rw (owns_is, not-false t z)
          go (Refused r) j = refl

      pub line_told : line_bytes l ≡ told
      unfolding output_at shown_at
      line_told = m ∙ alone ∙ ap (λ (a : Answer (Judged Route)). shown_text (after a)) h

pub ruleset showings = (none_told, owned_told, pass_told, trail_told, line_told)

-- by what is refused before
module _ (network list : List ℕ) (id : ℕ) (c : Result Form Refusal) (h : check_answer c ≡ prepare_refusal network list) where
  pub refused_told : (r : Refusal) → c ≡ Err r → (l : Line) → line_bytes l ≡ verdict_line (answer_of (Refused r)) → line_bytes l ≡ trail_output network list id
  unfolding trail_output show_records shown_text verdict_line
  refused_told r e l m = m ∙ rw (← judge_refused network list c h r e)

  module _ (f : Form) (e : c ≡ Ok f) where
    shown_told_lem : output_at f network list id ≡ trail_output network list id
    unfolding trail_output output_at show_records shown_at
    shown_told_lem =
        let own : form_of network ≡ f = given_form network list f (sym h ∙ ap check_answer e) in
        let one : form_of list ≡ f = one_form list network ∙ own in
        rw (own, one, judge_searched network list c h f e (verdict_at f network list) refl)

    -- the lookup is in these records
    pub shown_told : (g : Form) (n l : List ℕ) → g ≡ f → n ≡ network → l ≡ list → output_at g n l id ≡ trail_output network list id
    shown_told g n l p q r = rw (p, q, r) shown_told_lem

pub ruleset entering = (refused_told, shown_told)

-- by the input's length
module _ (input : List ℕ) (bound : ℕ) (b : bound ≡ naming_bound) where
  pub over_told : bound < length input → line_bytes (Line-as-Refused 5 bound) ≡ trail_text input
  unfolding trail_text line_bytes
  over_told h = rw b (bound_over naming_bound input _ (rw b at h))

  module _ (first : ℕ) (h : length input ≤ bound) (e : first ≡ first_length input) where
    abbrev rest : List ℕ
    rest = take (length input - first) (drop first input)

    rest_is : rest ≡ rest_of input
    rest_is = rest_lent input first ∙ ap (λ (k : ℕ). drop k input) e

    module _ (taken : ℕ) (t : taken ≡ min 2 (length rest)) where
      few : taken ≤ length input - first
      few = omega (arith, t, ap length (rest_lent input first), length-drop first input)

      pub behind_within : first ≤ length input → first + taken ≤ length input
      behind_within l = let w = few in omega arith

      behind_is : take (length input - (first + taken)) (drop (first + taken) input) ≡ behind_named (rest_of input)
      behind_is =
          rest_lent input (first + taken)
          ∙ sym (drop-drop taken first input)
          ∙ ap (drop taken) (sym (rest_lent input first))
          ∙ rest_named rest taken t
          ∙ ap behind_named rest_is

      pub input_told : (id : ℕ) → id ≡ named_of rest
          → trail_output (take (first - 0) (drop 0 input)) (take (length input - (first + taken)) (drop (first + taken) input)) id ≡ trail_text input
      unfolding trail_text
      input_told id q =
          let network : take (first - 0) (drop 0 input) ≡ first_record input = rw (sub-zero, e) in
          rw (network, behind_is, q ∙ ap named_of rest_is) (bound_kept naming_bound input _ (rw b at h))

pub ruleset trail_texts = (over_told, behind_within, input_told)

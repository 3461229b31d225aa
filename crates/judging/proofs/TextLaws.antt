-- The judging program's text.
--     finding_line_lem             a finding's line
--     verdict_lines            the line of each verdict
--     judge_texts              an input that is too long, and one that is judged
--     line_fits, line_read     the longest line's room is enough for every line
use mathlib.Core.Path.{◌≡◌, ap, ◌∙◌}
use mathlib.Core.List.{List}
use Prim.Native.Nat.{ℕ, ◌-◌, ◌≤◌, ◌<◌}
use native.Mathlib.Nat.{sub-zero}
use native.Mathlib.Omega.{arith}
use lib.ListN.{length, take, drop}
use Rattle.lists.specs.Laid.{placed}
use Rattle.routes.specs.declared.Route.{Route}
use Rattle.lists.specs.Answer.{Answer, given, refused}
use Rattle.networks.specs.Judge.{Verdict as Judged, pass, found}
use Rattle.layout.specs.declared.Refusal.{Refusal}
use Rattle.lines.specs.Split.{first_length, first_record, rest_of}
use Rattle.lines.specs.Line.{found_line, line_bytes, longest_line}
use Rattle.lines.specs.declared.Line.{Line}
use Rattle.lines.specs.declared.Line.TheVariants.{Found, Pass as Line-as-Pass, Refused as Line-as-Refused}
use Rattle.lines.proofs.Answers.{bound_over, bound_kept, bound_short, answer_read}
use Rattle.lines.proofs.Splits.{rest_lent}
use Rattle.lines.proofs.Lengths.{pass_length, refused_length, found_length}
use Rattle.judging.specs.Answers.{answer_of}
use Rattle.judging.specs.Judging.{judge_records}
use Rattle.judging.specs.Text.{verdict_line, judge_bound, judge_text}
use Rattle.judging.specs.declared.Finding.{Finding}
use Rattle.judging.specs.declared.Verdict.{Verdict}
use Rattle.judging.specs.declared.Verdict.TheVariants.{Pass, NotDue, PromiseBroken, DemandUnmet, Refused}
use Rattle.layout.specs.Refusals.{number_of}

-- a finding's line, with the node as the code widens it
pub finding_line_lem : (number node wide count : ℕ) (route : Route) → wide ≡ node → line_bytes (Found number wide count route) ≡ found_line number node count route
unfolding line_bytes
finding_line_lem number node wide count route e = rw e

module _ (v : Verdict) where
  pub pass_line_lem : (count : ℕ) → v ≡ Pass count → line_bytes (Line-as-Pass count) ≡ verdict_line (answer_of v)
  unfolding verdict_line line_bytes
  pass_line_lem count e = rw e

  module _ (f : Finding) (l : Line) where
    pub due_line : v ≡ NotDue f → line_bytes l ≡ found_line 31 f.node f.count f.route → line_bytes l ≡ verdict_line (answer_of v)
    unfolding verdict_line
    due_line e q = rw e q

    pub promise_line : v ≡ PromiseBroken f → line_bytes l ≡ found_line 32 f.node f.count f.route → line_bytes l ≡ verdict_line (answer_of v)
    unfolding verdict_line
    promise_line e q = rw e q

    pub demand_line : v ≡ DemandUnmet f → line_bytes l ≡ found_line 33 f.node f.count f.route → line_bytes l ≡ verdict_line (answer_of v)
    unfolding verdict_line
    demand_line e q = rw e q

  pub refusal_line : (r : Refusal) (l : Line) → v ≡ Refused r → l ≡ Line-as-Refused (number_of r.class) r.place → line_bytes l ≡ verdict_line (answer_of v)
  unfolding verdict_line line_bytes
  refusal_line r l e q = rw (e, q)

pub ruleset verdict_lines = (pass_line_lem, due_line, promise_line, demand_line, refusal_line)

module _ (input : List ℕ) (bound : ℕ) (b : bound ≡ judge_bound) where
  pub text_over : bound < length input → line_bytes (Line-as-Refused 5 bound) ≡ judge_text input
  unfolding judge_text line_bytes
  text_over h = rw b (bound_over judge_bound input _ (rw b at h))

  pub text_judged : (first : ℕ) (v : Verdict) (l : Line) → length input ≤ bound → first ≡ first_length input
      → answer_of v ≡ judge_records (take (first - 0) (drop 0 input)) (take (length input - first) (drop first input))
      → line_bytes l ≡ verdict_line (answer_of v) → line_bytes l ≡ judge_text input
  unfolding judge_text
  text_judged first v l h e q w =
      let a : answer_of v ≡ judge_records (first_record input) (rest_of input) = q ∙ (rw (sub-zero, rest_lent, e)) in
      w ∙ ap verdict_line a ∙ bound_kept judge_bound input _ (rw b at h)

pub ruleset judge_texts = (text_over, text_judged)

verdict_short : (a : Answer (Judged Route)) → length (verdict_line a) ≤ longest_line
unfolding verdict_line
verdict_short (given (pass count)) = omega (arith, pass_length count)
verdict_short (given (found number node route count)) = found_length number node count route
verdict_short (refused number place) = omega (arith, refused_length number place)

module _ (input : List ℕ) (r : ℕ) (q : r ≡ length (judge_text input)) where
  text_short : length (judge_text input) ≤ longest_line
  unfolding judge_text
  text_short = bound_short judge_bound input _ longest_line (omega arith) (verdict_short (judge_records (first_record input) (rest_of input)))

  pub line_fits : (out' : List ℕ) → length out' ≡ longest_line → r ≤ length out'
  line_fits out' long = omega (arith, text_short)

  pub line_read : (out out' : List ℕ) → longest_line ≤ length out → out' ≡ placed (judge_text input) out → take (r - 0) (drop 0 out') ≡ judge_text input
  line_read out out' room e = answer_read (judge_text input) out out' r (omega (arith, text_short)) q e

-- What the programs promise beside the lines that document 01 gives them: how much of an input counts, and how a script tells one
-- answer from another.
--     JudgeReads, CutReads, CensusReads, TrailReads, JoinReads          no byte counts that is further back than one behind the longest input
--     input_judged, input_cut, input_shown, input_joined                    what is answered to an input
--     JudgePrints, CutWrites, CensusPrints, TrailPrints, JoinWrites     the output is that answer's, and behind a pass the census
--     JudgeShows, CutShows, TrailShows, JoinShows                       the first byte of the output says which kind of answer it is
use Rattle.std.specs.Prelude.{◌≡◌, List, [], ◌∷◌, ◌++◌, ℕ, ◌+◌, ◌≤◌, ltb, length, take}
use Rattle.lists.specs.Answer.{Answer, given, refused}
use Rattle.lists.specs.Test.{first_applying}
use Rattle.routes.specs.declared.Route.{Route}
use Rattle.networks.specs.Judge.{Verdict, pass, found}
use Rattle.networks.specs.Trail.{Shown, trail, fails}
use Rattle.layout.specs.Form.{form_of}
use Rattle.reading.specs.Whole.{HouseNetwork}
use Rattle.lines.specs.Line.{text}
use Rattle.lines.specs.Split.{first_record, rest_of, named_of, behind_named}
use Rattle.judging.specs.Judging.{judge_records}
use Rattle.judging.specs.Text.{verdict_line, judge_bound, naming_bound, judge_text}
use Rattle.counting.specs.Lines.{census_lines}
use Rattle.counting.specs.Text.{census_of, behind_pass, census_text}
use Rattle.tracing.specs.Tracing.{show_records}
use Rattle.tracing.specs.Text.{shown_text, trail_text}
use Rattle.cutting.specs.Cutting.{cut_network}
use Rattle.outcomes.specs.Text.{record_output}
use Rattle.cutting.specs.Text.{asked_of, behind_asked, cut_bound, cut_text}
use Rattle.joining.specs.Joining.{join_networks}
use Rattle.joining.specs.Text.{join_bound, join_text}

-- Each program reads no more than one byte over its bound: the output is that of the whole input.
abbrev pub JudgeReads : List ℕ → Type 0
JudgeReads input = judge_text (take (judge_bound + 1) input) ≡ judge_text input

abbrev pub CutReads : List ℕ → Type 0
CutReads input = cut_text (take (cut_bound + 1) input) ≡ cut_text input

-- The census reads what the judge reads.
abbrev pub CensusReads : List ℕ → Type 0
CensusReads input = census_text (take (judge_bound + 1) input) ≡ census_text input

abbrev pub TrailReads : List ℕ → Type 0
TrailReads input = trail_text (take (naming_bound + 1) input) ≡ trail_text input

abbrev pub JoinReads : List ℕ → Type 0
JoinReads input = join_text (take (join_bound + 1) input) ≡ join_text input

-- An input over the bound is refused with 5, the bound as its place; any other is split and judged, or cut, or its trail shown, or joined.
abbrev pub input_judged : List ℕ → Answer (Verdict Route)
input_judged input = first_applying ((ltb judge_bound (length input), refused 5 judge_bound) ∷ []) (judge_records (first_record input) (rest_of input))

abbrev pub input_cut : List ℕ → Answer HouseNetwork
input_cut input = first_applying ((ltb cut_bound (length input), refused 5 cut_bound) ∷ [])
    (cut_network (first_record input) (behind_asked (rest_of input)) (asked_of (rest_of input)))

abbrev pub input_shown : List ℕ → Answer (Shown Route)
input_shown input = first_applying ((ltb naming_bound (length input), refused 5 naming_bound) ∷ [])
    (show_records (first_record input) (behind_named (rest_of input)) (named_of (rest_of input)))

abbrev pub input_joined : List ℕ → Answer HouseNetwork
input_joined input = first_applying ((ltb join_bound (length input), refused 5 join_bound) ∷ []) (join_networks (first_record input) (rest_of input))

abbrev pub JudgePrints : List ℕ → Type 0
JudgePrints input = judge_text input ≡ verdict_line (input_judged input)

abbrev pub CutWrites : List ℕ → Type 0
CutWrites input = cut_text input ≡ record_output (form_of (first_record input)) (input_cut input)

abbrev pub JoinWrites : List ℕ → Type 0
JoinWrites input = join_text input ≡ record_output (form_of (first_record input)) (input_joined input)

-- The census begins with the judge's line, and has the counts and the silent boxes behind it on a pass, and otherwise nothing.
abbrev pub CensusPrints : List ℕ → Type 0
CensusPrints input = census_text input ≡ judge_text input ++ behind_pass (input_judged input) (census_lines (census_of (first_record input) (rest_of input)))

abbrev pub TrailPrints : List ℕ → Type 0
TrailPrints input = trail_text input ≡ shown_text (input_shown input)

-- The judge's line begins with a `p` on a pass, with an `f` on a finding, with an `r` on a refusal.
abbrev pub judge_mark : Answer (Verdict Route) → List ℕ
judge_mark (given (pass count)) = text "p"
judge_mark (given (found number node route count)) = text "f"
judge_mark (refused number place) = text "r"

abbrev pub JudgeShows : List ℕ → Type 0
JudgeShows input = take 1 (judge_text input) ≡ judge_mark (input_judged input)

-- The cutter's output, and the joiner's, begins with a zero byte where it is a record, with an `r` on a refusal.
abbrev pub record_mark : Answer HouseNetwork → List ℕ
record_mark (given F) = 0 ∷ []
record_mark (refused number place) = text "r"

abbrev pub CutShows : List ℕ → Type 0
CutShows input = take 1 (cut_text input) ≡ record_mark (input_cut input)

abbrev pub JoinShows : List ℕ → Type 0
JoinShows input = take 1 (join_text input) ≡ record_mark (input_joined input)

-- A trail begins with a digit, and what is printed instead of one with an `f` on a finding, with an `r` on a refusal.
abbrev pub TrailMarked : Answer (Shown Route) → List ℕ → Type 0
TrailMarked (given (trail boxes)) start = (digit : ℕ) × (48 ≤ digit) × (digit ≤ 57) × (start ≡ digit ∷ [])
TrailMarked (given (fails number node route count)) start = start ≡ text "f"
TrailMarked (refused number place) start = start ≡ text "r"

abbrev pub TrailShows : List ℕ → Type 0
TrailShows input = TrailMarked (input_shown input) (take 1 (trail_text input))

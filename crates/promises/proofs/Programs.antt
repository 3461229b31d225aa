-- What the programs promise, proved. An output over the bound is a refused line whatever is behind (judge_start, cut_start, trail_start, join_start). A
-- line's first byte is its first word's, and a box's id begins with a digit; a fragment's record is shorter than 2^16 bytes, so that its
-- length's high byte is 0.
use mathlib.Core.Path.{◌≡◌, refl, sym, ap, ◌∙◌, subst}
use mathlib.Core.Bool.{Bool, true, false, cond, not}
use mathlib.Core.List.{List, [], ◌∷◌, ◌++◌, append-nil}
use mathlib.Core.Logic.{⊎_elim}
use Prim.Native.Nat.{ℕ, ◌+◌, ◌≤◌, ◌<◌, ◌/◌}
use native.Mathlib.Nat.{div-eq_of_lt}
use native.Mathlib.Omega.{arith}
use lib.Dec.{ltb}
use lib.ListN.{length, take, drop, replicate, length-take, length-replicate, take-append-drop}
use lib.Seq.{take_all}
use Rattle.lists.specs.Answer.{Answer, given, refused, and_then}
use Rattle.lists.specs.Test.{first_applying}
use Rattle.lists.proofs.Test.{le_or_lt}
use Rattle.numbers.specs.BigEndian.{u16_bytes, u32_bytes}
use Rattle.numbers.proofs.DecimalLaws.{decimal_first}
use Rattle.routes.specs.declared.Route.{Route}
use Rattle.networks.specs.Judge.{Verdict, pass, found}
use Rattle.networks.specs.Network.{owns}
use Rattle.networks.specs.Solution.{mapping}
use Rattle.networks.specs.Trail.{Shown, shown_after, showing, trail_behind, with_routes}
use Rattle.layout.specs.Form.{node_width, form_of, widest}
use Rattle.layout.specs.declared.Form.{Form}
use Rattle.reading.specs.Largest.{largest_network}
use Rattle.reading.specs.Whole.{HouseNetwork, write_network, network_of, list_of}
use Rattle.lines.specs.Bound.{within_bound}
use Rattle.lines.specs.Line.{line, pass_line, refused_line, found_line, box_line}
use Rattle.lines.specs.Split.{first_record, rest_of, named_of, behind_named}
use Rattle.judging.specs.Judging.{judge_records}
use Rattle.judging.specs.Text.{verdict_line, judge_bound, naming_bound, judge_text}
use Rattle.judging.proofs.Starts.{judge_start}
use Rattle.counting.specs.Lines.{census_lines}
use Rattle.counting.specs.Text.{census_of, behind_pass, census_records, census_text}
use Rattle.counting.proofs.Lengths.{census_start}
use Rattle.tracing.specs.Tracing.{show_records}
use Rattle.tracing.specs.Text.{trail_lines, shown_text, trail_text, trail_output}
use Rattle.tracing.proofs.Lengths.{trail_start}
use Rattle.cutting.specs.Cutting.{cut_network}
use Rattle.outcomes.specs.Text.{record_output}
use Rattle.cutting.specs.Text.{asked_of, behind_asked, cut_bound, cut_text}
use Rattle.cutting.proofs.Starts.{cut_start}
use Rattle.cutting.proofs.TextLaws.{text_fits}
use Rattle.joining.specs.Joining.{join_networks}
use Rattle.joining.specs.Text.{join_bound, join_text}
use Rattle.joining.proofs.Starts.{join_start}
use Rattle.joining.proofs.TextLaws.{text_fits as join_fits}
use Rattle.promises.specs.Calls.{house1}
use Rattle.promises.specs.Programs.{JudgeReads, CutReads, CensusReads, CensusPrints, input_judged, input_cut, JudgePrints, CutWrites, judge_mark, JudgeShows, record_mark, CutShows}
use Rattle.promises.specs.Programs.{TrailReads, input_shown, TrailPrints, TrailMarked, TrailShows, JoinReads, input_joined, JoinWrites, JoinShows}

-- the first bytes of an input, one more than a bound
start_told : (bound : ℕ) (text : List ℕ → List ℕ) → ((read more : List ℕ) → bound < length read → text (read ++ more) ≡ text read)
    → (input : List ℕ) → text (take (bound + 1) input) ≡ text input
start_told bound text b input = ⊎_elim
    (λ (short : length input ≤ bound + 1). ap text (take_all (bound + 1) input short))
    (λ (long : bound + 1 < length input).
    sym (b (take (bound + 1) input) (drop (bound + 1) input) (simp length-take (omega arith))) ∙ ap text (take-append-drop (bound + 1) input))
    (le_or_lt (length input) (bound + 1))

pub judge_reads : (input : List ℕ) → JudgeReads input
judge_reads = start_told judge_bound judge_text judge_start

pub cut_reads : (input : List ℕ) → CutReads input
cut_reads = start_told cut_bound cut_text cut_start

pub census_reads : (input : List ℕ) → CensusReads input
census_reads = start_told judge_bound census_text census_start

pub trail_reads : (input : List ℕ) → TrailReads input
trail_reads = start_told naming_bound trail_text trail_start

pub join_reads : (input : List ℕ) → JoinReads input
join_reads = start_told join_bound join_text join_start

pub census_prints : (input : List ℕ) → CensusPrints input
unfolding census_text judge_text within_bound census_records
census_prints input = go (ltb judge_bound (length input))
  where
    a : Answer (Verdict Route)
    a = judge_records (first_record input) (rest_of input)

    lines : List ℕ
    lines = census_lines (census_of (first_record input) (rest_of input))

    go : (t : Bool) → cond t (refused_line 5 judge_bound) (verdict_line a ++ behind_pass a lines)
        ≡ cond t (refused_line 5 judge_bound) (verdict_line a) ++ behind_pass (first_applying ((t, refused 5 judge_bound) ∷ []) a) lines
    go true = sym (append-nil (refused_line 5 judge_bound))
    go false = refl

verdict_first : (a : Answer (Verdict Route)) → take 1 (verdict_line a) ≡ judge_mark a
unfolding verdict_line pass_line refused_line found_line line
verdict_first (given (pass count)) = refl
verdict_first (given (found number node route count)) = refl
verdict_first (refused number place) = refl

pub judge_prints : (input : List ℕ) → JudgePrints input
unfolding judge_text within_bound verdict_line
judge_prints input = go (ltb judge_bound (length input))
  where
    a : Answer (Verdict Route)
    a = judge_records (first_record input) (rest_of input)

    go : (t : Bool) → cond t (refused_line 5 judge_bound) (verdict_line a) ≡ verdict_line (first_applying ((t, refused 5 judge_bound) ∷ []) a)
    go true = refl
    go false = refl

pub judge_shows : (input : List ℕ) → JudgeShows input
judge_shows input = ap (take 1) (judge_prints input) ∙ verdict_first (input_judged input)

-- an input over the bound is refused like a network
bound_writes : (bound : ℕ) (input : List ℕ) (f : Form) (a : Answer HouseNetwork)
    → within_bound bound input (record_output f a) ≡ record_output f (first_applying ((ltb bound (length input), refused 5 bound) ∷ []) a)
unfolding within_bound record_output
bound_writes bound input f a = go (ltb bound (length input))
  where
    go : (t : Bool) → cond t (refused_line 5 bound) (record_output f a) ≡ record_output f (first_applying ((t, refused 5 bound) ∷ []) a)
    go true = refl
    go false = refl

pub cut_writes : (input : List ℕ) → CutWrites input
unfolding cut_text
cut_writes input = bound_writes cut_bound input (form_of (first_record input))
    (cut_network (first_record input) (behind_asked (rest_of input)) (asked_of (rest_of input)))

pub join_writes : (input : List ℕ) → JoinWrites input
unfolding join_text
join_writes input = bound_writes join_bound input (form_of (first_record input)) (join_networks (first_record input) (rest_of input))

-- the high byte of a number below 2^16
high_byte : (n : ℕ) → n < 65536 → n / 65536 / 256 ≡ 0
high_byte n small = ap (λ (k : ℕ). k / 256) (div-eq_of_lt small)

record_first : (f : Form) (N : HouseNetwork) → length (write_network f N) ≤ largest_network widest → take 1 (write_network f N) ≡ 0 ∷ []
unfolding write_network u32_bytes u16_bytes largest_network node_width
record_first f N short = ap (λ (k : ℕ). k ∷ []) (high_byte _ (omega arith))

output_first : (f : Form) (a : Answer HouseNetwork) → length (record_output f a) ≤ largest_network widest → take 1 (record_output f a) ≡ record_mark a
unfolding record_output refused_line line
output_first f (given F) short = record_first f F short
output_first f (refused number place) short = refl

-- what fits into every buffer of a length is no longer
fits_short : (room n : ℕ) → ((out : List ℕ) → length out ≡ room → n ≤ length out) → n ≤ room
fits_short room n fits = let long = length-replicate {A = ℕ} room 0 in omega (arith, fits (replicate room 0) long)

pub cut_shows : (input : List ℕ) → CutShows input
cut_shows input =
    let written = cut_writes input in
    ap (take 1) written ∙ output_first (form_of (first_record input)) (input_cut input)
    (rw written at (fits_short (largest_network widest) (length (cut_text input)) (text_fits input (length (cut_text input)) refl)))

pub join_shows : (input : List ℕ) → JoinShows input
join_shows input =
    let written = join_writes input in
    ap (take 1) written ∙ output_first (form_of (first_record input)) (input_joined input)
    (rw written at (fits_short (largest_network widest) (length (join_text input)) (join_fits input (length (join_text input)) refl)))

-- what is shown of the records in an input, whatever its length
abbrev within : List ℕ → Answer (Shown Route)
within input = show_records (first_record input) (behind_named (rest_of input)) (named_of (rest_of input))

pub trail_prints : (input : List ℕ) → TrailPrints input
unfolding trail_text within_bound trail_output shown_text
trail_prints input = go (ltb naming_bound (length input))
  where
    go : (t : Bool) → cond t (refused_line 5 naming_bound) (shown_text (within input)) ≡ shown_text (first_applying ((t, refused 5 naming_bound) ∷ []) (within input))
    go true = refl
    go false = refl

-- a trail begins with the line of the box that is named, and so with a digit of its id
shown_first : (network list : List ℕ) (id : ℕ) → TrailMarked (show_records network list id) (take 1 (shown_text (show_records network list id)))
unfolding show_records showing shown_text trail_lines box_line refused_line found_line line
shown_first network list id = go (judge_records network list) (owns (network_of network) id)
  where
    ℒ : ℕ → Route
    ℒ = mapping house1 (network_of network) (list_of list)

    -- what is shown after an answer of the judge's, where there is such an own box or not
    after : Answer (Verdict Route) → Bool → Answer (Shown Route)
    after a t = and_then a (λ (verdict : Verdict Route). first_applying ((not t, refused 18 id) ∷ [])
        (given (shown_after verdict (with_routes house1 (network_of network) ℒ (id ∷ trail_behind house1 (network_of network) ℒ id)))))

    go : (a : Answer (Verdict Route)) (t : Bool) → TrailMarked (after a t) (take 1 (shown_text (after a t)))
    go (given (pass count)) true = let d = decimal_first id in (d.0, d.2, d.3, rw d.4 refl)
    go (given (pass count)) false = refl
    go (given (found number node route count)) true = refl
    go (given (found number node route count)) false = refl
    go (refused number place) t = refl

pub trail_shows : (input : List ℕ) → TrailShows input
unfolding shown_text refused_line line
trail_shows input = subst (λ (out : List ℕ). TrailMarked (input_shown input) (take 1 out)) (sym (trail_prints input))
    (go (ltb naming_bound (length input)))
  where
    go : (t : Bool) → TrailMarked (first_applying ((t, refused 5 naming_bound) ∷ []) (within input))
        (take 1 (shown_text (first_applying ((t, refused 5 naming_bound) ∷ []) (within input))))
    go true = refl
    go false = shown_first (first_record input) (behind_named (rest_of input)) (named_of (rest_of input))

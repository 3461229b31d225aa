-- No census is longer than the longest: at most 28 bytes for each box that it names.
--     census_fits, census_read     the longest census's room is enough for every one
--     census_start                 what is behind an input that is over the bound does not show
use mathlib.Core.Path.{◌≡◌, refl}
use mathlib.Core.List.{List, [], ◌∷◌, ◌++◌}
use Prim.Native.Nat.{ℕ, ◌+◌, ◌-◌, ◌*◌, ◌≤◌, ◌<◌}
use native.Mathlib.Omega.{arith}
use lib.ListN.{length, take, drop, length-append, length-map}
use Rattle.lists.specs.Answer.{Answer, given, refused}
use Rattle.lists.specs.Filter.{filter}
use Rattle.lists.specs.Laid.{placed}
use Rattle.lists.specs.Rows.{laid_rows}
use Rattle.lists.proofs.Filter.{length_filter}
use Rattle.numbers.specs.Decimal.{decimal}
use Rattle.numbers.proofs.DecimalLaws.{decimal_short}
use Rattle.routes.specs.Carry.{highest}
use Rattle.routes.specs.declared.Demand.{Demand}
use Rattle.routes.specs.declared.Route.{Route}
use Rattle.networks.specs.Judge.{Verdict, pass, found}
use Rattle.networks.specs.Network.{Own, own_boxes}
use Rattle.networks.specs.Silence.{Census, census, overlooked}
use Rattle.layout.specs.Form.{form_of}
use Rattle.layout.proofs.OneForm.{form_usable}
use Rattle.records.specs.Network.{SoundRecord}
use Rattle.records.proofs.Fine.{network_fine}
use Rattle.reading.specs.Asking.{house_asking}
use Rattle.reading.specs.House.{house}
use Rattle.reading.specs.Whole.{network_of, list_of}
use Rattle.reading.proofs.Lengths.{own_few}
use Rattle.lines.specs.Line.{text, line}
use Rattle.lines.specs.Split.{first_record, rest_of}
use Rattle.lines.proofs.Answers.{bound_short, answer_read}
use Rattle.lines.proofs.Lengths.{line_short, pass_length, refused_length, found_length}
use Rattle.lines.proofs.Starts.{bound_start}
use Rattle.judging.specs.Judging.{judge_records}
use Rattle.judging.specs.Text.{verdict_line, judge_bound}
use Rattle.judging.proofs.OnBytes.{judged}
use Rattle.counting.specs.Lines.{share_line, silent_line, count_lines, census_lines}
use Rattle.counting.specs.Text.{census_of, behind_pass, census_records, longest_census, census_text}
use Rattle.counting.specs.declared.Tally.{Tally}

share_short : (word : List ℕ) (part whole : ℕ) → length word ≤ 20 → length (share_line word part whole) ≤ 100
unfolding share_line
share_short word part whole h =
    let l = line_short word (decimal part ∷ text "of" ∷ decimal whole ∷ []) (decimal_short part, (omega arith, (decimal_short whole, tt))) in omega arith

counts_short : (t : Tally) → length (count_lines t) ≤ 400
unfolding count_lines
counts_short t =
    let a = share_line (text "holding") t.holding t.boxes in
    let b = share_line (text "assumed") t.assumed t.inputs in
    let c = share_line (text "promised") t.promised t.promises in
    let d = line (text "asked") (decimal t.asked ∷ []) in
    let h = share_short (text "holding") t.holding t.boxes (omega arith) in
    let i = share_short (text "assumed") t.assumed t.inputs (omega arith) in
    let j = share_short (text "promised") t.promised t.promises (omega arith) in
    let k = line_short (text "asked") (decimal t.asked ∷ []) (decimal_short t.asked, tt) in
    omega (arith, length-append a (b ++ (c ++ d)), length-append b (c ++ d), length-append c d)

names_short : (ids : List ℕ) → length (laid_rows silent_line ids) ≤ 28 * length ids
unfolding silent_line
names_short [] = omega arith
names_short (id ∷ ids) =
    let h = line_short (text "silent") (decimal id ∷ []) (decimal_short id, tt) in
    let r = names_short ids in
    omega (arith, length-append (line (text "silent") (decimal id ∷ [])) (laid_rows silent_line ids))

lines_short : (c : Census) → length c.silent ≤ 1024 → length (census_lines c) ≤ 400 + 28 * 1024
unfolding census_lines
lines_short c few =
    let t : Tally = record { boxes = c.boxes; holding = c.holding; inputs = c.inputs; assumed = c.assumed; promises = c.promises; promised = c.promised; asked = c.asked } in
    let h = counts_short t in
    let n = names_short c.silent in
    omega (arith, length-append (count_lines t) (laid_rows silent_line c.silent))

-- a sound record has no more own boxes than a table has rows
named_few : (network list : List ℕ) → SoundRecord network → length (census_of network list).silent ≤ 1024
unfolding census
named_few network list sound =
    let N = network_of network in
    let ours = own_few (form_of network) network (network_fine network sound).few_nodes (form_usable network).few in
    let named = length_filter (overlooked (house highest) house_asking (list_of list)) (own_boxes N) in
    omega (arith, length-map (filter (overlooked (house highest) house_asking (list_of list)) (own_boxes N)) (λ (b : Own Route Demand). b.id))

records_short : (network list : List ℕ) → length (census_records network list) ≤ longest_census
unfolding census_records verdict_line
records_short network list = go (judge_records network list) refl
  where
    go : (a : Answer (Verdict Route)) → judge_records network list ≡ a → length (verdict_line a ++ behind_pass a (census_lines (census_of network list))) ≤ longest_census
    go (given (pass count)) e =
        let few = named_few network list (judged network list (pass count) e).0 in
        let h = pass_length count in
        let l = lines_short (census_of network list) few in
        omega (arith, length-append (verdict_line (given (pass count))) (census_lines (census_of network list)))
    go (given (found number node route count)) e =
        let h = found_length number node count route in omega (arith, length-append (verdict_line (given (found number node route count))) [])
    go (refused number place) e = let h = refused_length number place in omega (arith, length-append (verdict_line (refused number place)) [])

module _ (input : List ℕ) (r : ℕ) (q : r ≡ length (census_text input)) where
  text_short : length (census_text input) ≤ longest_census
  unfolding census_text
  text_short = bound_short judge_bound input _ longest_census (omega arith) (records_short (first_record input) (rest_of input))

  pub census_fits : (out' : List ℕ) → length out' ≡ longest_census → r ≤ length out'
  census_fits out' long = omega (arith, text_short)

  pub census_read : (out out' : List ℕ) → longest_census ≤ length out → out' ≡ placed (census_text input) out → take (r - 0) (drop 0 out') ≡ census_text input
  census_read out out' room e = answer_read (census_text input) out out' r (omega (arith, text_short)) q e

pub census_start : (read more : List ℕ) → judge_bound < length read → census_text (read ++ more) ≡ census_text read
unfolding census_text
census_start read more over = bound_start judge_bound read more _ _ over

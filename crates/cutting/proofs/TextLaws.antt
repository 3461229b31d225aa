-- The cutting program's output.
--     fragment_outputs         what is written of the cutter's outcome
--     cut_texts                an input that is too long, one without a rest, and one with a fragment asked
--     text_fits, text_read     the largest network's room is enough for every output
use mathlib.Core.Path.{◌≡◌, refl, sym, ap, ◌∙◌}
use mathlib.Core.Bool.{true}
use mathlib.Core.List.{List, []}
use Prim.Native.Nat.{ℕ, ◌+◌, ◌-◌, ◌≤◌, ◌<◌}
use native.Mathlib.Nat.{add-zero}
use native.Mathlib.Omega.{arith}
use lib.ListN.{length, get_or, take, drop, drop_of_length-le}
use lib.Seq.{take_all, drop-drop, get_or-drop}
use Rattle.lists.specs.Laid.{placed}
use Rattle.lists.proofs.Rows.{length_rows}
use Rattle.routes.specs.Form.{policy_at}
use Rattle.lists.specs.Answer.{Answer, given}
use Rattle.lists.proofs.Answer.{first_meets}
use Rattle.networks.specs.Cut.{only, fragment, cut, cut_table}
use Rattle.reading.specs.House.{house}
use Rattle.networks.proofs.Laws.Cutting.{cut_given}
use Rattle.networks.proofs.Laws.Soundness.{fragment_less}
use Rattle.entries.specs.Entries.{sheet_refusal}
use Rattle.records.specs.Network.{NetworkFine, network_refusal}
use Rattle.records.proofs.Fine.{network_fine}
use Rattle.layout.specs.Form.{node_width, form_of, sheet_lead, widest}
use Rattle.layout.specs.Layout.{node_count, edge_count, policy_count, node_part, edge_part}
use Rattle.reading.specs.Parts.{box_at, wire_at}
use Rattle.reading.specs.Largest.{largest_network}
use Rattle.reading.specs.Whole.{read_network, write_network, sheet_of, network_of}
use Rattle.reading.proofs.Lengths.{network_short}
use Rattle.lines.specs.Split.{first_length, first_record, rest_of}
use Rattle.lines.specs.Line.{line_bytes}
use Rattle.lines.specs.declared.Line.TheVariants.{Refused as Line-as-Refused}
use Rattle.lines.proofs.Answers.{bound_over, bound_kept, bound_short, answer_read}
use Rattle.lines.proofs.Splits.{rest_lent}
use Rattle.outcomes.specs.Text.{record_output, outcome_length, outcome_placed}
use Rattle.outcomes.proofs.TextLaws.{other_than20, network_other, entries_other, then_other, record_count, record_placed, line_within, Short, output_short, known_largest}
use Rattle.cutting.specs.Cutting.{cut_network, cut_records, cut_buffer}
use Rattle.cutting.specs.Text.{asked_of, cut_bound, cut_text, behind_asked}
use Rattle.cutting.proofs.OnBytes.{said as given_said}
use Rattle.routes.specs.Carry.{highest}
use Rattle.layout.proofs.OneForm.{form_usable, form_known}

-- number 20 is refused for want of room alone
cut_other : (network sheet : List ℕ) (k : ℕ) → other_than20 (cut_network network sheet k) ≡ true
unfolding cut_network cut
cut_other network sheet k =
    then_other (network_refusal network) _ (network_other network) (λ f.
    then_other (sheet_refusal sheet) _ (entries_other sheet_lead sheet) (λ g.
    first_meets other_than20 (cut_table (house highest) (network_of network) (sheet_of sheet) k) (given (fragment (network_of network) (sheet_of sheet) k)) refl refl))

-- what is written of the cutter's outcome is the fragment or the line of a refusal
module _ (network sheet : List ℕ) (k : ℕ) (out : List ℕ) (a : Answer ℕ) (q : a ≡ cut_records network sheet k (length out)) where
  abbrev output : List ℕ
  output = record_output (form_of network) (cut_network network sheet k)

  pub fragment_count : (c : ℕ) → c ≡ outcome_length a → c ≡ length output
  unfolding cut_records
  fragment_count c h = h ∙ record_count (form_of network) (cut_network network sheet k) (cut_other network sheet k) a out q

  pub fragment_placed : (out' end : List ℕ) → out' ≡ cut_buffer network sheet k out → end ≡ outcome_placed a out' → end ≡ placed output out
  unfolding cut_records cut_buffer
  fragment_placed out' end b h = h ∙ record_placed (form_of network) (cut_network network sheet k) (cut_other network sheet k) a out q out' b

pub ruleset fragment_outputs = (fragment_count, fragment_placed)

module _ (input : List ℕ) (bound : ℕ) (b : bound ≡ cut_bound) where
  pub text_over : bound < length input → line_bytes (Line-as-Refused 5 bound) ≡ cut_text input
  unfolding cut_text line_bytes
  text_over h = rw b (bound_over cut_bound input _ (rw b at h))

  module _ (first : ℕ) (h : length input ≤ bound) (e : first ≡ first_length input) where
    -- the output, by the network, the sheet and the fragment asked
    said : (network sheet : List ℕ) (k : ℕ) → network ≡ first_record input → sheet ≡ behind_asked (rest_of input) → k ≡ asked_of (rest_of input)
        → record_output (form_of network) (cut_network network sheet k) ≡ cut_text input
    unfolding cut_text
    said network sheet k n s a = rw (n, s, a) (bound_kept cut_bound input _ (rw b at h))

    pub text_restless : first ≡ length input → record_output (form_of input) (cut_network input (take (length input - first) (drop first input)) 0) ≡ cut_text input
    text_restless q =
        let empty : drop first input ≡ [] = drop_of_length-le input {i = first} (omega arith) in
        let rest : rest_of input ≡ [] = ap (λ (i : ℕ). drop i input) (sym e) ∙ empty in
        said input (take (length input - first) (drop first input)) 0 (sym (take_all (first_length input) input (omega arith))) (rest_lent input first ∙ empty ∙ rw rest) (rw rest)

    pub text_asked : (behind : ℕ) → (first ≡ length input → ⊥) → first ≤ length input → behind ≡ first + 1
        → record_output (form_of (take first input)) (cut_network (take first input) (take (length input - behind) (drop behind input)) (get_or input first 0)) ≡ cut_text input
    text_asked behind u l q =
        said (take first input) (take (length input - behind) (drop behind input)) (get_or input first 0)
        (rw e)
        (rest_lent input behind ∙ rw (q, e) (sym (drop-drop 1 (first_length input) input)))
        (rw (e, get_or-drop, add-zero))

pub ruleset cut_texts = (text_over, text_restless, text_asked)

fragment_short : (network sheet : List ℕ) (k : ℕ) → NetworkFine (form_of network) network
    → length (write_network (form_of network) (fragment (network_of network) (sheet_of sheet) k)) ≤ largest_network widest
unfolding read_network
fragment_short network sheet k sound =
    let f = form_of network in
    let less = fragment_less (network_of network) (sheet_of sheet) (only k) in
    let boxes = length_rows (box_at f.route network) (node_width f) (node_part network) (node_count network) in
    let wires = length_rows (wire_at network) 5 (edge_part f network) (edge_count network) in
    let policies = length_rows (policy_at network) 13 10 (policy_count network) in
    let nodes = sound.few_nodes in
    let edges = sound.few_edges in
    let most = sound.few_policies in
    let own = network_short f (form_usable network).wide (fragment (network_of network) (sheet_of sheet) k) (omega arith) (omega arith) (omega arith) in
    omega (arith, own, known_largest f (form_known network))

cut_short : (network sheet : List ℕ) (k : ℕ) → Short (form_of network) (cut_network network sheet k)
cut_short network sheet k = output_short (form_of network) (cut_network network sheet k) (λ F e.
    let v = given_said network sheet k F e in
    rw (← (cut_given (house highest) (network_of network) (sheet_of sheet) k F v.2).2) (fragment_short network sheet k (network_fine network v.0)))

module _ (input : List ℕ) (r : ℕ) (q : r ≡ length (cut_text input)) where
  text_short : length (cut_text input) ≤ largest_network widest
  unfolding cut_text
  text_short = bound_short cut_bound input _ (largest_network widest) line_within (cut_short (first_record input) (behind_asked (rest_of input)) (asked_of (rest_of input)))

  pub text_fits : (out' : List ℕ) → length out' ≡ largest_network widest → r ≤ length out'
  text_fits out' long = omega (arith, text_short)

  pub text_read : (out out' : List ℕ) → largest_network widest ≤ length out → out' ≡ placed (cut_text input) out → take (r - 0) (drop 0 out') ≡ cut_text input
  text_read out out' room e = answer_read (cut_text input) out out' r (omega (arith, text_short)) q e

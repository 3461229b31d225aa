-- The joining program's output.
--     joint_outputs            what is written of the joiner's outcome
--     join_texts               an input that is too long, and one that is split in two
--     text_fits, text_read     the largest network's room is enough for every output
use mathlib.Core.Path.{◌≡◌, refl, ◌∙◌}
use mathlib.Core.Bool.{true}
use mathlib.Core.List.{List}
use Prim.Native.Nat.{ℕ, ◌-◌, ◌≤◌, ◌<◌}
use native.Mathlib.Omega.{arith}
use lib.ListN.{length, take, drop}
use Rattle.lists.specs.Answer.{Answer, given}
use Rattle.lists.specs.Laid.{placed}
use Rattle.lists.proofs.Answer.{first_meets}
use Rattle.routes.specs.Carry.{highest}
use Rattle.networks.specs.Join.{joining, join, join_table}
use Rattle.layout.specs.Form.{form_of, widest}
use Rattle.layout.proofs.OneForm.{form_known}
use Rattle.lines.specs.Line.{line_bytes}
use Rattle.lines.specs.Split.{first_length, first_record, rest_of}
use Rattle.lines.specs.declared.Line.TheVariants.{Refused as Line-as-Refused}
use Rattle.lines.proofs.Answers.{bound_over, bound_kept, bound_short, answer_read}
use Rattle.lines.proofs.Splits.{rest_lent}
use Rattle.outcomes.specs.Text.{record_output, outcome_length, outcome_placed}
use Rattle.outcomes.proofs.TextLaws.{other_than20, network_other, then_other, record_count, record_placed, line_within, Short, output_short, known_largest}
use Rattle.reading.specs.House.{house, house_telling}
use Rattle.reading.specs.Largest.{largest_network}
use Rattle.reading.specs.Whole.{bounds, network_of}
use Rattle.records.specs.Network.{network_refusal}
use Rattle.joining.specs.Joining.{join_networks, join_records, join_buffer}
use Rattle.joining.specs.Text.{join_bound, join_text}
use Rattle.joining.proofs.OnBytes.{joint_within}

-- number 20 is refused for want of room alone
join_other : (first second : List ℕ) → other_than20 (join_networks first second) ≡ true
unfolding join_networks join
join_other first second =
    then_other (network_refusal first) _ (network_other first) (λ f.
    then_other (network_refusal second) _ (network_other second) (λ g.
    first_meets other_than20 (join_table (house highest) (house_telling highest) (bounds (form_of first)) (network_of first) (network_of second))
    (given (joining (network_of first) (network_of second))) refl refl))

-- what is written of the joiner's outcome is the joint network or the line of a refusal
module _ (first second out : List ℕ) (a : Answer ℕ) (q : a ≡ join_records first second (length out)) where
  abbrev output : List ℕ
  output = record_output (form_of first) (join_networks first second)

  pub joint_count : (c : ℕ) → c ≡ outcome_length a → c ≡ length output
  unfolding join_records
  joint_count c h = h ∙ record_count (form_of first) (join_networks first second) (join_other first second) a out q

  pub joint_placed : (out' end : List ℕ) → out' ≡ join_buffer first second out → end ≡ outcome_placed a out' → end ≡ placed output out
  unfolding join_records join_buffer
  joint_placed out' end b h = h ∙ record_placed (form_of first) (join_networks first second) (join_other first second) a out q out' b

pub ruleset joint_outputs = (joint_count, joint_placed)

module _ (input : List ℕ) (bound : ℕ) (b : bound ≡ join_bound) where
  pub text_over : bound < length input → line_bytes (Line-as-Refused 5 bound) ≡ join_text input
  unfolding join_text line_bytes
  text_over h = rw b (bound_over join_bound input _ (rw b at h))

  pub text_joined : (first : ℕ) → length input ≤ bound → first ≡ first_length input
      → record_output (form_of (take first input)) (join_networks (take first input) (take (length input - first) (drop first input))) ≡ join_text input
  unfolding join_text
  text_joined first h e = rw (rest_lent input first, e) (bound_kept join_bound input _ (rw b at h))

pub ruleset join_texts = (text_over, text_joined)

join_short : (first second : List ℕ) → Short (form_of first) (join_networks first second)
join_short first second = output_short (form_of first) (join_networks first second)
    (λ F e. omega (arith, joint_within first second F e, known_largest (form_of first) (form_known first)))

module _ (input : List ℕ) (r : ℕ) (q : r ≡ length (join_text input)) where
  text_short : length (join_text input) ≤ largest_network widest
  unfolding join_text
  text_short = bound_short join_bound input _ (largest_network widest) line_within (join_short (first_record input) (rest_of input))

  pub text_fits : (out' : List ℕ) → length out' ≡ largest_network widest → r ≤ length out'
  text_fits out' long = omega (arith, text_short)

  pub text_read : (out out' : List ℕ) → largest_network widest ≤ length out → out' ≡ placed (join_text input) out → take (r - 0) (drop 0 out') ≡ join_text input
  text_read out out' room e = answer_read (join_text input) out out' r (omega (arith, text_short)) q e

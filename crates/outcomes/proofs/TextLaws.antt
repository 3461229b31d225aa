-- What a program writes of an outcome.
--     outcome_lines                     one law for each way of the code: a record, 20 with its length, another refusal
--     other_than20, network_other, ..    20 is refused for want of room alone
--     record_count, record_placed       so that what is written is the record of the network that is given, or the line of its refusal
--     output_short                      the largest network's room is enough for it
use mathlib.Core.Path.{◌≡◌, refl, ap, ◌∙◌}
use mathlib.Core.Bool.{Bool, true, false, cond, not}
use mathlib.Core.List.{List}
use Prim.Native.Nat.{ℕ, ◌≤◌}
use native.Mathlib.Omega.{arith}
use lib.Dec.{eqb, leb}
use lib.ListN.{length}
use borrow.Author.Tests.{eq-eqb, ne_eqb, not-true}
use Rattle.std.specs.Prelude.{Result, Ok, Err}
use Rattle.lists.specs.Laid.{placed}
use Rattle.lists.specs.Answer.{Answer, given, refused, and_then}
use Rattle.lists.proofs.Answer.{first_meets}
use Rattle.layout.specs.Form.{node_width, form_of, widest, Known}
use Rattle.layout.specs.Refusals.{number_of}
use Rattle.layout.specs.declared.Form.{Form}
use Rattle.layout.specs.declared.Refusal.{Refusal}
use Rattle.entries.specs.Entries.{entries_table, entries_refusal}
use Rattle.records.specs.Network.{network_table, network_refusal}
use Rattle.reading.specs.Largest.{largest_network}
use Rattle.reading.specs.Whole.{HouseNetwork, write_network}
use Rattle.lines.specs.Line.{line_bytes, longest_line}
use Rattle.lines.specs.declared.Line.{Line}
use Rattle.lines.specs.declared.Line.TheVariants.{Refused as Line-as-Refused}
use Rattle.lines.proofs.Lengths.{refused_length}
use Rattle.outcomes.specs.Outcomes.{outcome_of}
use Rattle.outcomes.specs.Room.{record_answer, laid_answer}
use Rattle.outcomes.specs.Text.{record_output, outcome_length, outcome_placed}

module _ (a : Result ℕ Refusal) (out : List ℕ) where
  module _ (n : ℕ) (e : a ≡ Ok n) where
    pub done_count : n ≡ outcome_length (outcome_of a)
    unfolding outcome_length
    done_count = rw e

    pub done_placed : out ≡ outcome_placed (outcome_of a) out
    unfolding outcome_placed
    done_placed = rw e

  module _ (r : Refusal) (e : a ≡ Err r) (m : ℕ) (number : m ≡ number_of r.class) where
    module _ (t : m ≡ 20) where
      pub room_count : r.place ≡ outcome_length (outcome_of a)
      unfolding outcome_length
      room_count = rw (e, ← number, eq-eqb m 20 t)

      pub room_placed : out ≡ outcome_placed (outcome_of a) out
      unfolding outcome_placed
      room_placed = rw (e, ← number, eq-eqb m 20 t)

    module _ (t : m ≡ 20 → ⊥) (line : Line) (l : line ≡ Line-as-Refused (number_of r.class) r.place) where
      other : eqb (number_of r.class) 20 ≡ false
      other = rw (← number) (ne_eqb m 20 t)

      pub refused_count : (c : ℕ) → c ≡ length (line_bytes line) → c ≡ outcome_length (outcome_of a)
      unfolding outcome_length line_bytes
      refused_count c h = rw (e, other) (rw l at h)

      pub refused_placed : (end : List ℕ) → end ≡ placed (line_bytes line) out → end ≡ outcome_placed (outcome_of a) out
      unfolding outcome_placed line_bytes
      refused_placed end h = rw (e, other) (rw l at h)

pub ruleset outcome_lines = (done_count, done_placed, room_count, room_placed, refused_count, refused_placed)

-- an answer that is no refusal with number 20
abbrev pub other_than20 : {A : Type 0} → Answer A → Bool
other_than20 (given x) = true
other_than20 (refused number place) = not (eqb number 20)

pub network_other : (b : List ℕ) → other_than20 (network_refusal b) ≡ true
unfolding network_refusal
network_other b = first_meets other_than20 (network_table (form_of b) b) (given (form_of b)) refl refl

pub entries_other : (lead : ℕ) (b : List ℕ) → other_than20 (entries_refusal lead b) ≡ true
unfolding entries_refusal
entries_other lead b = first_meets other_than20 (entries_table (form_of b) lead b) (given (form_of b)) refl refl

-- a refusal of one call upon another's answer is a refusal of one of the two
pub then_other : {A B : Type 0} (a : Answer A) (f : A → Answer B) → other_than20 a ≡ true → ((x : A) → other_than20 (f x) ≡ true)
    → other_than20 (and_then a f) ≡ true
then_other (given x) f h k = k x
then_other (refused number place) f h k = h

module _ (f : Form) where
  length_told : (A : Answer HouseNetwork) (room : ℕ) → other_than20 A ≡ true → outcome_length (record_answer f room A) ≡ length (record_output f A)
  unfolding outcome_length record_output
  length_told (given F) room t = go (leb (length (write_network f F)) room)
    where
      go : (s : Bool) → outcome_length (cond s (given (length (write_network f F))) (refused 20 (length (write_network f F)))) ≡ length (write_network f F)
      go true = refl
      go false = refl
  length_told (refused number place) room t = rw (not-true (eqb number 20) t)

  placed_told : (A : Answer HouseNetwork) (room : ℕ) (out : List ℕ) → other_than20 A ≡ true
      → outcome_placed (record_answer f room A) (laid_answer f A out) ≡ placed (record_output f A) out
  unfolding outcome_placed record_output
  placed_told (given F) room out t = go (leb (length (write_network f F)) room)
    where
      go : (s : Bool) → outcome_placed (cond s (given (length (write_network f F))) (refused 20 (length (write_network f F)))) (placed (write_network f F) out)
          ≡ placed (write_network f F) out
      go true = refl
      go false = refl
  placed_told (refused number place) room out t = rw (not-true (eqb number 20) t)

  module _ (A : Answer HouseNetwork) (t : other_than20 A ≡ true) (a : Answer ℕ) (out : List ℕ) (e : a ≡ record_answer f (length out) A) where
    pub record_count : outcome_length a ≡ length (record_output f A)
    record_count = ap outcome_length e ∙ length_told A (length out) t

    pub record_placed : (out' : List ℕ) → out' ≡ laid_answer f A out → outcome_placed a out' ≡ placed (record_output f A) out
    record_placed out' b = rw (e, b) (placed_told A (length out) out t)

pub line_within : longest_line ≤ largest_network widest
unfolding largest_network node_width
line_within = omega arith

-- no output is longer than the largest network
abbrev pub Short : Form → Answer HouseNetwork → Type 0
Short f A = length (record_output f A) ≤ largest_network widest

pub refused_short : (f : Form) (number place : ℕ) → Short f (refused number place)
unfolding record_output
refused_short f number place = omega (arith, refused_length number place, line_within)

pub output_short : (f : Form) (A : Answer HouseNetwork) → ((F : HouseNetwork) → A ≡ given F → length (write_network f F) ≤ largest_network widest) → Short f A
unfolding record_output
output_short f (given F) h = h F refl
output_short f (refused number place) h = refused_short f number place

-- a form's largest network is no larger than the widest form's
pub known_largest : (f : Form) → Known f → largest_network f ≤ largest_network widest
unfolding Known
known_largest f k = rw k (omega arith)

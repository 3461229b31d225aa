-- The record that a call leaves at the start of a lent buffer, by the network that it is of: a cut's and a join's alike. With room it is the
-- network's record, whatever the buffer held; without, and on a refusal, there is none.
--     written, left                      a network's record; what is left of an answer
--     left_laid, left_given              a record that there is room for is left, and what is left is one
--     left_roomy, left_same              with room for every record; buffers of one length
--     Told, told                         what the record of a sound network has
use mathlib.Core.Path.{◌≡◌, refl, sym, ap, ◌∙◌}
use mathlib.Core.List.{List}
use mathlib.Core.Logic.{⊎_elim}
use Prim.Native.Nat.{ℕ, ◌≤◌, ◌<◌}
use native.Mathlib.Omega.{arith}
use lib.ListN.{length, take}
use lib.Seq.{take-append_seam}
use Rattle.lists.specs.Answer.{Answer, given, refused, and_then}
use Rattle.lists.specs.Bytes.{Bytes}
use Rattle.lists.proofs.Answer.{given_same, refused_given}
use Rattle.lists.proofs.Test.{le_or_lt}
use Rattle.networks.specs.Sound.{Sound}
use Rattle.layout.specs.Form.{form_of}
use Rattle.layout.specs.declared.Form.{Form}
use Rattle.layout.proofs.OneForm.{form_known, form_usable}
use Rattle.records.specs.Network.{SoundRecord}
use Rattle.reading.specs.Largest.{largest_network}
use Rattle.reading.specs.Whole.{HouseNetwork, bounds, read_network, write_network, network_of}
use Rattle.reading.proofs.Bridges.{write_network_lem, network_small, network_form}
use Rattle.reading.proofs.Lengths.{within_largest}
use Rattle.reading.proofs.NetworkBytes.{NetworkFits}
use Rattle.outcomes.specs.Room.{record_answer, laid_answer}
use Rattle.outcomes.proofs.RoomLaws.{record_laid, record_unlaid}

abbrev pub written : Form → HouseNetwork → Answer (List ℕ)
written f F = given (write_network f F)

abbrev pub left : Form → Answer HouseNetwork → List ℕ → Answer (List ℕ)
left f A out = and_then (record_answer f (length out) A) (λ (n : ℕ). given (take n (laid_answer f A out)))

module _ (f : Form) (A : Answer HouseNetwork) (out : List ℕ) where
  pub left_laid : (G : HouseNetwork) → A ≡ given G → length (write_network f G) ≤ length out → left f A out ≡ given (write_network f G)
  left_laid G q room =
      let laid = record_laid f A out G q room in
      ap (λ (a : Answer ℕ). and_then a (λ (n : ℕ). given (take n (laid_answer f A out)))) laid.0
      ∙ ap (λ (b : List ℕ). given (take (length (write_network f G)) b)) laid.1
      ∙ ap given (take-append_seam (write_network f G) _)

  left_short : (G : HouseNetwork) → A ≡ given G → length out < length (write_network f G) → left f A out ≡ refused 20 (length (write_network f G))
  left_short G q room = ap (λ (a : Answer ℕ). and_then a (λ (n : ℕ). given (take n (laid_answer f A out)))) (record_unlaid f A out G q room).0

  pub left_given : (W : List ℕ) → left f A out ≡ given W → (G : HouseNetwork) × (A ≡ given G) × (W ≡ write_network f G)
  left_given W e = go A refl
    where
      go : (a : Answer HouseNetwork) → A ≡ a → (G : HouseNetwork) × (A ≡ given G) × (W ≡ write_network f G)
      go (given G) q = (
        G,
        q,
        ⊎_elim (λ room. given_same (sym e ∙ left_laid G q room)) (λ room. absurd (refused_given (sym (left_short G q room) ∙ e)))
            (le_or_lt (length (write_network f G)) (length out)),
      )
      go (refused m p) q = absurd (refused_given (sym (ap (λ (a : Answer HouseNetwork). left f a out) q) ∙ e))

  pub left_roomy : ((G : HouseNetwork) → A ≡ given G → length (write_network f G) ≤ length out) → left f A out ≡ and_then A (written f)
  left_roomy room = go A refl
    where
      go : (a : Answer HouseNetwork) → A ≡ a → left f A out ≡ and_then a (written f)
      go (given G) q = left_laid G q (room G q)
      go (refused m p) q = ap (λ (a : Answer HouseNetwork). left f a out) q

-- what a buffer held does not count
pub left_same : (f : Form) (A : Answer HouseNetwork) (out out' : List ℕ) → length out ≡ length out' → left f A out ≡ left f A out'
left_same f A out out' e = go A refl
  where
    go : (a : Answer HouseNetwork) → A ≡ a → left f A out ≡ left f A out'
    go (given G) q = ⊎_elim
        (λ (room : length (write_network f G) ≤ length out). left_laid f A out G q room ∙ sym (left_laid f A out' G q (omega arith)))
        (λ (room : length out < length (write_network f G)). left_short f A out G q room ∙ sym (left_short f A out' G q (omega arith)))
        (le_or_lt (length (write_network f G)) (length out))
    go (refused m p) q = ap (λ (a : Answer HouseNetwork). left f a out) q ∙ sym (ap (λ (a : Answer HouseNetwork). left f a out') q)

-- A network's record is not refused, has the form, says the network, is bytes, and is no longer than the largest.
pub record Told (f : Form) (F : HouseNetwork) : Type 0 where
  pub fine : SoundRecord (write_network f F)
  pub form : form_of (write_network f F) ≡ f
  pub says : network_of (write_network f F) ≡ F
  pub small : Bytes (write_network f F)
  pub short : length (write_network f F) ≤ largest_network f

pub told : (b : List ℕ) (F : HouseNetwork) → Sound (bounds (form_of b)) F → NetworkFits F → Told (form_of b) F
told b F sound fits =
    let f = form_of b in
    let form = network_form f (form_known b) F sound fits in
    let w = write_network_lem f (form_known b) F sound fits in
    record {
      fine = w.0;
      form = form;
      says = ap (λ (g : Form). read_network g (write_network f F)) form ∙ w.1;
      small = network_small f (form_known b) F sound fits;
      short = within_largest f (form_usable b).wide F sound;
    }

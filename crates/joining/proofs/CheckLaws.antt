-- What the checks of the two records leave.
--     first_refused, first_kept       the first record is refused
--     second_refused, second_kept     the second one is
--     both_answer, both_buffer        neither is: what is said of the two
--     second_rows                     the second record is read by the form of the first
use Rattle.std.proofs.Common.{Ok, Err, Result}
use Prim.Native.Nat.{ℕ}
use mathlib.Core.List.{List}
use mathlib.Core.Path.{◌≡◌, refl, sym, ap, ◌∙◌}
use Rattle.lists.specs.Answer.{Answer}
use Rattle.lists.specs.Bytes.{Bytes}
use Rattle.layout.specs.Form.{form_of}
use Rattle.layout.specs.Refusals.{check_answer, refusing}
use Rattle.layout.specs.declared.Form.{Form}
use Rattle.layout.specs.declared.Refusal.{Refusal}
use Rattle.layout.proofs.OneForm.{one_form}
use Rattle.outcomes.specs.Room.{record_answer, laid_answer}
use Rattle.records.specs.Checked.{CheckedRows}
use Rattle.records.specs.Network.{network_refusal, SoundRecord}
use Rattle.records.specs.Rows.{RowsAfter}
use Rattle.records.proofs.Checked.{network_told, rows_checked}
use Rattle.joining.specs.Joining.{join_said, join_networks, join_records, join_buffer}

module _ (first second : List ℕ) (c : Result Form Refusal) (h : check_answer c ≡ network_refusal first) where
  module _ (r : Refusal) (e : c ≡ Err r) where
    first_said : join_networks first second ≡ refusing r
    unfolding join_networks
    first_said = let n : network_refusal first ≡ refusing r = sym h ∙ ap check_answer e in rw n refl

    pub first_refused : (room : ℕ) → refusing r ≡ join_records first second room
    unfolding join_records
    first_refused room = rw first_said refl

    pub first_kept : (out : List ℕ) → out ≡ join_buffer first second out
    unfolding join_buffer
    first_kept out = rw first_said refl

  module _ (f : Form) (e : c ≡ Ok f) (d : Result Form Refusal) (i : check_answer d ≡ network_refusal second) where
    form_told : form_of first ≡ f
    form_told = (network_told c f e first h).0

    sound : SoundRecord first
    sound = (network_told c f e first h).1

    module _ (r : Refusal) (q : d ≡ Err r) where
      second_said : join_networks first second ≡ refusing r
      unfolding join_networks
      second_said = let n : network_refusal second ≡ refusing r = sym i ∙ ap check_answer q in rw (sound, n) refl

      pub second_refused : (room : ℕ) → refusing r ≡ join_records first second room
      unfolding join_records
      second_refused room = rw second_said refl

      pub second_kept : (out : List ℕ) → out ≡ join_buffer first second out
      unfolding join_buffer
      second_kept out = rw second_said refl

    module _ (g : Form) (q : d ≡ Ok g) where
      said : join_networks first second ≡ join_said f first second
      unfolding join_networks join_said
      said =
          let sound' : SoundRecord second = (network_told d g q second i).1 in
          rw (sound, sound', one_form second first, form_told) refl

      pub both_answer : (room : ℕ) (a : Answer ℕ) → a ≡ record_answer f room (join_said f first second) → a ≡ join_records first second room
      unfolding join_records
      both_answer room a p = rw (said, form_told) p

      pub both_buffer : (out out' : List ℕ) → out' ≡ laid_answer f (join_said f first second) out → out' ≡ join_buffer first second out
      unfolding join_buffer
      both_buffer out out' p = rw (said, form_told) p

      pub second_rows : Bytes second → (before after : List ℕ) → RowsAfter (form_of second) second d before after → CheckedRows f second after
      second_rows small before after t =
          let same : g ≡ f = sym (network_told d g q second i).0 ∙ one_form second first ∙ form_told in
          rw (← same) (rows_checked d g q second i small before after t)

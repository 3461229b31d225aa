-- What a check that found nothing leaves: the facts that none of the numbers applies (NetworkFine, EntriesFine) give a reader its room and rising ids.
--     sound_checked, formed_checked                       from the facts
--     given_network, given_entries                        a form that is given is the record's own
--     network_told, entries_told                          what a check that found nothing tells of the form
--     network_checked, rows_checked, entries_checked      from what a check found
--     one_told, together_checked                          two records that are taken together
use Rattle.std.proofs.Common.{Ok, Result}
use Prim.Native.Nat.{ℕ, ◌≤◌}
use mathlib.Core.Path.{◌≡◌, refl, sym, ap, ◌∙◌}
use mathlib.Core.List.{List}
use Rattle.lists.specs.Bytes.{Bytes}
use Rattle.records.specs.Checked.{CheckedNetwork, CheckedRows, CheckedEntries}
use Rattle.layout.specs.Layout.{entry_count, node_count}
use Rattle.entries.specs.Entries.{entries_refusal, entries_table, WellFormed, EntriesFine}
use Rattle.records.specs.Network.{NetworkFine, network_table, network_refusal, SoundRecord}
use Rattle.layout.specs.Form.{Usable, form_of}
use Rattle.layout.proofs.OneForm.{form_usable, one_form}
use Rattle.lists.specs.Answer.{given}
use Rattle.lists.proofs.Answer.{first_given, given_same}
use Rattle.layout.specs.Refusals.{check_answer}
use Rattle.records.proofs.Fine.{network_fine, fine_room}
use Rattle.entries.proofs.Fine.{entries_fine, fine_entries_room, entry_ids_rise}
use Rattle.records.proofs.RowLaws.{ids_rise, rows_fine}
use Rattle.records.specs.Rows.{RowsAfter}
use Rattle.layout.specs.declared.Form.{Form}
use Rattle.layout.specs.declared.Refusal.{Refusal}

module _ (f : Form) (u : Usable f) where
  pub sound_checked : (network : List ℕ) → Bytes network → NetworkFine f network → CheckedNetwork f network
  sound_checked network small sound = record {
    bytes = small;
    sound = sound;
    room = fine_room f network u sound;
    rising = ids_rise f network (node_count network) sound.nodes;
  }

  pub formed_checked : (lead : ℕ) (entries : List ℕ) → (2 ≤ lead) × (lead ≤ 3) → Bytes entries → EntriesFine f lead entries → CheckedEntries f lead entries
  formed_checked lead entries led small formed = record {
    bytes = small;
    formed = formed;
    room = fine_entries_room f lead entries u led formed;
    rising = entry_ids_rise f lead entries (entry_count entries) formed.entries;
  }

-- a form that is given is the record's own, and nothing is refused
pub given_network : (network : List ℕ) (f : Form) → network_refusal network ≡ given f → SoundRecord network
unfolding network_refusal
given_network network f g = g ∙ sym (first_given (network_table (form_of network) network) (given (form_of network)) f refl g).1

pub given_entries : (lead : ℕ) (entries : List ℕ) (f : Form) → entries_refusal lead entries ≡ given f → WellFormed lead entries
unfolding entries_refusal
given_entries lead entries f g = g ∙ sym (first_given (entries_table (form_of entries) lead entries) (given (form_of entries)) f refl g).1

-- a check that found nothing tells the record's form
module _ (c : Result Form Refusal) (f : Form) (e : c ≡ Ok f) where
  module _ (network : List ℕ) (h : check_answer c ≡ network_refusal network) where
    pub network_told : (form_of network ≡ f) × SoundRecord network
    network_told =
        let g = sym h ∙ ap check_answer e in
        let ok = given_network network f g in
        (given_same (sym ok ∙ g), ok)

    module _ (small : Bytes network) where
      pub network_checked : CheckedNetwork f network
      network_checked = rw (← network_told.0) (sound_checked (form_of network) (form_usable network) network small (network_fine network network_told.1))

      pub rows_checked : (before after : List ℕ) → RowsAfter (form_of network) network c before after → CheckedRows f network after
      rows_checked before after t = record { checked = network_checked; filled = rw (← network_told.0) (rows_fine (form_of network) network f c before after e t) }

  module _ (lead : ℕ) (entries : List ℕ) (h : check_answer c ≡ entries_refusal lead entries) where
    pub entries_told : (form_of entries ≡ f) × WellFormed lead entries
    entries_told =
        let g = sym h ∙ ap check_answer e in
        let ok = given_entries lead entries f g in
        (given_same (sym ok ∙ g), ok)

    pub entries_checked : (2 ≤ lead) × (lead ≤ 3) → Bytes entries → CheckedEntries f lead entries
    entries_checked led small =
        rw (← entries_told.0) (formed_checked (form_of entries) (form_usable entries) lead entries led small (entries_fine lead entries entries_told.1))

-- Two records that are taken together have one form: the entries are checked by the network's.
module _ (c d : Result Form Refusal) (f g : Form) (e : c ≡ Ok f) (q : d ≡ Ok g) (network : List ℕ) (h : check_answer c ≡ network_refusal network) (lead : ℕ) (entries : List ℕ)
    (k : check_answer d ≡ entries_refusal lead entries) where
  pub one_told : form_of entries ≡ f
  one_told = one_form entries network ∙ (network_told c f e network h).0

  pub together_checked : (2 ≤ lead) × (lead ≤ 3) → Bytes entries → CheckedEntries f lead entries
  together_checked led small =
      let told = entries_told d g q lead entries k in
      rw (← one_told, told.0) (entries_checked d g q lead entries k led small)

-- What `prepare` leaves, from its contract alone.
--     given_form, given_..     a form that is given is the records' own, and no refusal applies to them
--     prepared_after           the records and the tables are prepared where a form is given
--     prepare_once             there is one answer, and one pair of tables with it
use mathlib.Core.Path.{◌≡◌, sym, ap, ◌∙◌}
use mathlib.Core.Bool.{true}
use mathlib.Core.List.{List}
use Prim.Native.Nat.{ℕ, ◌<◌}
use native.Mathlib.Omega.{arith}
use lib.ListN.{length, replicate}
use Rattle.lists.specs.Answer.{given}
use Rattle.lists.specs.Bytes.{Bytes}
use Rattle.lists.proofs.Answer.{then_given, row_given, given_same}
use Rattle.networks.specs.Lowest.{unentered}
use Rattle.networks.specs.Sheets.{listed}
use Rattle.layout.specs.Form.{list_lead, form_of}
use Rattle.layout.specs.Layout.{entry_count, node_count}
use Rattle.layout.specs.Refusals.{check_answer}
use Rattle.std.proofs.Common.{Result, Ok}
use Rattle.layout.specs.declared.Form.{Form}
use Rattle.layout.specs.declared.Refusal.{Refusal}
use Rattle.layout.proofs.Cases.{one_check}
use Rattle.layout.proofs.OneForm.{one_form, form_usable}
use Rattle.nodes.specs.Node.{is_own}
use Rattle.entries.specs.Entries.{list_refusal, WellFormed}
use Rattle.entries.proofs.Fine.{entries_fine}
use Rattle.records.specs.Entered.{entry_in}
use Rattle.records.specs.Network.{network_refusal, SoundRecord}
use Rattle.records.specs.Rows.{RowsAfter}
use Rattle.records.proofs.Checked.{given_network, given_entries, sound_checked, formed_checked}
use Rattle.records.proofs.Fine.{network_fine}
use Rattle.records.proofs.RowLaws.{rows_fine, rows_after_once}
use Rattle.reading.specs.Whole.{read_network, read_list}
use Rattle.preparing.specs.Prepared.{lacking_refusal, prepare_refusal, Listed, stands_after, Standing, Prepared}
use Rattle.preparing.proofs.PrepareLaws.{lacking_form, no_bare}
use Rattle.preparing.proofs.StandLaws.{stands_hold}

module _ (network list : List ℕ) (f : Form) (e : prepare_refusal network list ≡ given f) where
  parts : SoundRecord network × WellFormed list_lead list × (form_of network ≡ f) × (lacking_refusal f network list ≡ given f)
  unfolding prepare_refusal
  parts =
      let n = then_given (network_refusal network) _ f e in
      let l = then_given (list_refusal list) _ f n.2 in
      let sound = given_network network n.0 n.1 in
      let same : n.0 ≡ f = lacking_form n.0 f network list l.2 in
      (sound, given_entries list_lead list l.0 l.1, given_same (sym sound ∙ n.1) ∙ same, rw same at l.2)

  pub given_sound : SoundRecord network
  given_sound = parts.0

  pub given_formed : WellFormed list_lead list
  given_formed = parts.1

  pub given_form : form_of network ≡ f
  given_form = parts.2

  pub given_entered : (i : ℕ) → i < node_count network → is_own f network i ≡ true → entry_in f list_lead network list i < entry_count list
  unfolding lacking_refusal
  given_entered = no_bare f network list (row_given 17 (unentered (read_network f network) (listed (read_list f list))) (given f) f parts.3).0

  given_listed : Bytes network → Bytes list → Listed f network list
  given_listed small few =
      let one : form_of list ≡ f = one_form list network ∙ given_form in
      let formed = formed_checked (form_of list) (form_usable list) list_lead list (omega arith, omega arith) few (entries_fine list_lead list given_formed) in
      record {
        checked = rw (← given_form) (sound_checked (form_of network) (form_usable network) network small (network_fine network given_sound));
        entries = rw (← one) formed;
        entered = given_entered;
      }

module _ (network list : List ℕ) where
  pub prepared_after : (c : Result Form Refusal) → check_answer c ≡ prepare_refusal network list → Bytes network → Bytes list
      → (f : Form) (before rows stands : List ℕ) → c ≡ Ok f → RowsAfter (form_of network) network c before rows
      → stands ≡ stands_after network list c (replicate 1024 0) → Prepared f network list rows stands
  unfolding Prepared Standing
  prepared_after c h small few f before rows stands e r s =
      let told : prepare_refusal network list ≡ given f = sym h ∙ ap check_answer e in
      let all = given_listed network list f told small few in (
        (all, stands_hold f network list stands all.checked (s ∙ ap (λ (x : Result Form Refusal). stands_after network list x (replicate 1024 0)) e)),
        rw (← given_form network list f told) (rows_fine (form_of network) network f c before rows e r),
      )

  -- the contract of `prepare`, from what the tables held before
  module _ (before stands : List ℕ) where
    pub prepare_once : (c d : Result Form Refusal) (r s t u : List ℕ) → length r ≡ 65536 → length s ≡ 65536
        → check_answer c ≡ prepare_refusal network list → RowsAfter (form_of network) network c before r → t ≡ stands_after network list c stands
        → check_answer d ≡ prepare_refusal network list → RowsAfter (form_of network) network d before s → u ≡ stands_after network list d stands
        → (c ≡ d) × (r ≡ s) × (t ≡ u)
    prepare_once c d r s t u l m p a x q b y =
        let same : c ≡ d = one_check (prepare_refusal network list) c d p q in (
          same,
          rows_after_once (form_of network) network d before r s l m (rw same at a) b,
          x ∙ ap (λ (k : Result Form Refusal). stands_after network list k stands) same ∙ sym y,
        )

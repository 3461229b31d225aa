-- What the checks of the two records leave, and the tables of all rows.
--     checking                           the refusals of the two records
--     tables_whole                       the marks of all edges, and what is kept of all rows
use Prim.Native.Nat.{ℕ}
use mathlib.Core.List.{List}
use mathlib.Core.Path.{◌≡◌, sym, ap, ◌∙◌}
use native.Mathlib.Omega.{arith}
use Rattle.records.specs.Checked.{CheckedEntries}
use Rattle.lists.specs.Bytes.{Bytes}
use Rattle.lists.specs.Answer.{Answer}
use Rattle.entries.specs.Entries.{sheet_refusal, WellFormed}
use Rattle.records.specs.Network.{network_refusal, SoundRecord}
use Rattle.layout.specs.Refusals.{check_answer, refusing}
use Rattle.std.specs.Prelude.{Result, Ok, Err}
use Rattle.layout.specs.declared.Form.{Form}
use Rattle.layout.specs.declared.Refusal.{Refusal}
use Rattle.outcomes.specs.Room.{record_answer, laid_answer}
use Rattle.cutting.specs.Cutting.{cut_said, cut_network, cut_records, cut_buffer}
use Rattle.marking.proofs.MarkSaid.{leaving, feeding}
use Rattle.marking.proofs.PieceLaws.{pieces_made}
use Rattle.records.proofs.Checked.{network_told, entries_told, one_told, together_checked}
use Rattle.layout.specs.Form.{sheet_lead, form_of}

module _ (network sheet : List ℕ) (k : ℕ) (c : Result Form Refusal) (h : check_answer c ≡ network_refusal network) where
  module _ (r : Refusal) (e : c ≡ Err r) where
    network_said : cut_network network sheet k ≡ refusing r
    unfolding cut_network
    network_said = let n : network_refusal network ≡ refusing r = sym h ∙ ap check_answer e in rw n

    pub network_refused : (room : ℕ) → refusing r ≡ cut_records network sheet k room
    unfolding cut_records
    network_refused room = rw network_said

    pub network_kept : (out : List ℕ) → out ≡ cut_buffer network sheet k out
    unfolding cut_buffer
    network_kept out = rw network_said

  module _ (f : Form) (e : c ≡ Ok f) (d : Result Form Refusal) (g : check_answer d ≡ sheet_refusal sheet) where
    sound : SoundRecord network
    sound = (network_told c f e network h).1

    module _ (r : Refusal) (q : d ≡ Err r) where
      sheet_said : cut_network network sheet k ≡ refusing r
      unfolding cut_network
      sheet_said = let n : sheet_refusal sheet ≡ refusing r = sym g ∙ ap check_answer q in rw (sound, n)

      pub sheet_refused : (room : ℕ) → refusing r ≡ cut_records network sheet k room
      unfolding cut_records
      sheet_refused room = rw sheet_said

      pub sheet_kept : (out : List ℕ) → out ≡ cut_buffer network sheet k out
      unfolding cut_buffer
      sheet_kept out = rw sheet_said

    module _ (i : Form) (q : d ≡ Ok i) where
      -- both records are read by the network's form
      said : cut_network network sheet k ≡ cut_said f network sheet k
      unfolding cut_network cut_said
      said =
          let formed : WellFormed sheet_lead sheet = (entries_told d i q sheet_lead sheet g).1 in
          let one : form_of sheet ≡ f = one_told c d f i e q network h sheet_lead sheet g in
          rw (sound, formed, (network_told c f e network h).0, one)

      pub records_cut : (room : ℕ) (a : Answer ℕ) → a ≡ record_answer f room (cut_said f network sheet k) → a ≡ cut_records network sheet k room
      unfolding cut_records
      records_cut room a p = rw (said, (network_told c f e network h).0) p

      pub records_laid : (out out' : List ℕ) → out' ≡ laid_answer f (cut_said f network sheet k) out → out' ≡ cut_buffer network sheet k out
      unfolding cut_buffer
      records_laid out out' p = rw (said, (network_told c f e network h).0) p

-- a sheet that is taken with a network is checked by the network's form
pub sheet_checked : (network sheet : List ℕ) (c : Result Form Refusal) → check_answer c ≡ network_refusal network → (d : Result Form Refusal) → check_answer d ≡ sheet_refusal sheet → Bytes sheet
    → (f : Form) → c ≡ Ok f → (g : Form) → d ≡ Ok g → CheckedEntries f sheet_lead sheet
sheet_checked network sheet c h d k small f e g q = together_checked c d f g e q network h sheet_lead sheet k (omega arith, omega arith) small

pub ruleset checking = (network_refused, network_kept, sheet_refused, sheet_kept, records_cut, records_laid)

-- all edges are marked, and all rows classified
pub ruleset tables_whole = (leaving, feeding, pieces_made)

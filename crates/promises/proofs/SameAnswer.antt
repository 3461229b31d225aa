-- Lists and sheets that agree, proved. Of a refused network the answer is its refusal, whatever the sheet; of a sound one the law about
-- networks gives the same fragment or refusal, and both the answer and the buffer are made of that alone.
use mathlib.Core.Path.{◌≡◌, refl, sym, ap, ◌∙◌}
use mathlib.Core.List.{List}
use Prim.Native.Nat.{ℕ}
use lib.ListN.{length}
use Rattle.lists.specs.Answer.{Answer, given, refused}
use Rattle.lists.specs.Bytes.{Bytes}
use Rattle.networks.proofs.SameCut.{same_cut as same_fragment}
use Rattle.layout.specs.Form.{form_of, sheet_lead}
use Rattle.layout.specs.declared.Form.{Form}
use Rattle.entries.specs.Entries.{WellFormed}
use Rattle.records.specs.Network.{network_refusal}
use Rattle.records.proofs.Checked.{given_network}
use Rattle.reading.specs.Whole.{HouseNetwork, bounds, network_of, sheet_of}
use Rattle.reading.proofs.Bridges.{read_network_lem}
use Rattle.judging.proofs.OnBytes.{judge_same}
use Rattle.outcomes.specs.Room.{record_answer, laid_answer}
use Rattle.cutting.specs.Cutting.{cut_network, cut_records, cut_buffer}
use Rattle.cutting.proofs.OnBytes.{cut_said_lem}
use Rattle.promises.specs.Calls.{house1}
use Rattle.promises.specs.SameAnswer.{SheetsAgree, SameAnswer, SameCut}

pub same_answer : (network list other : List ℕ) → SameAnswer network list other
same_answer = judge_same

same_network : (network sheet other : List ℕ) → Bytes network → WellFormed sheet_lead sheet → WellFormed sheet_lead other
    → SheetsAgree (network_of network) (sheet_of sheet) (sheet_of other) → (k : ℕ) → cut_network network sheet k ≡ cut_network network other k
unfolding cut_network
same_network network sheet other small s t agree k = go (network_refusal network) refl
  where
    go : (a : Answer Form) → network_refusal network ≡ a → cut_network network sheet k ≡ cut_network network other k
    go (refused number place) q = rw q refl
    go (given f) q =
        let n = given_network network f q in
        cut_said_lem network sheet k n s
        ∙ same_fragment house1 (bounds (form_of network)) (network_of network) (read_network_lem network small n).0 (sheet_of sheet) (sheet_of other) agree k
        ∙ sym (cut_said_lem network other k n t)

pub same_cut : (network sheet other : List ℕ) → SameCut network sheet other
unfolding cut_records cut_buffer
same_cut network sheet other small s t agree k out =
    let e = same_network network sheet other small s t agree k in
    (ap (record_answer (form_of network) (length out)) e, ap (λ (a : Answer HouseNetwork). laid_answer (form_of network) a out) e)

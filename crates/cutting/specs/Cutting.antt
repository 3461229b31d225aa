-- Cutting two records (document 01, 'Cutting'): the network's refusals, the sheet's, then 17, 18, 19 and the fragment of what they say,
-- and last the room.
use Rattle.std.specs.Prelude.{ℕ, List}
use Rattle.lists.specs.Answer.{Answer, and_then}
use Rattle.reading.specs.House.{house}
use Rattle.networks.specs.Cut.{cut}
use Rattle.entries.specs.Entries.{sheet_refusal}
use Rattle.layout.specs.Form.{form_of}
use Rattle.records.specs.Network.{network_refusal}
use Rattle.layout.specs.declared.Form.{Form}
use Rattle.routes.specs.Carry.{highest}
use Rattle.reading.specs.Whole.{HouseNetwork, read_network, read_sheet, network_of, sheet_of}
use Rattle.outcomes.specs.Room.{record_answer, laid_answer}

-- The fragment of what the two records say. No law of routes is used in it but their equality, so that the highest cost does not matter.
unfoldable pub cut_said : Form → List ℕ → List ℕ → ℕ → Answer HouseNetwork
cut_said f network sheet k = cut (house highest) (read_network f network) (read_sheet f sheet) k

unfoldable pub cut_network : List ℕ → List ℕ → ℕ → Answer HouseNetwork
cut_network network sheet k =
    and_then (network_refusal network) (λ (f : Form).
    and_then (sheet_refusal sheet) (λ (g : Form).
    cut (house highest) (network_of network) (sheet_of sheet) k))

-- the length of the fragment's record, where there is room for it. A fragment has its network's form.
unfoldable pub cut_records : List ℕ → List ℕ → ℕ → ℕ → Answer ℕ
cut_records network sheet k room = record_answer (form_of network) room (cut_network network sheet k)

-- what the lent buffer holds: that record over its start, and what it held before on every refusal
unfoldable pub cut_buffer : List ℕ → List ℕ → ℕ → List ℕ → List ℕ
cut_buffer network sheet k out = laid_answer (form_of network) (cut_network network sheet k) out

-- Lists and sheets are read at a network's own boxes only: two that agree there get the same answer.
use Rattle.std.specs.Prelude.{◌≡◌, List, ℕ, length}
use Rattle.lists.specs.All.{All}
use Rattle.lists.specs.Bytes.{Bytes}
use Rattle.routes.specs.declared.Demand.{Demand}
use Rattle.routes.specs.declared.Route.{Route}
use Rattle.networks.specs.Network.{Own, own_boxes}
use Rattle.networks.specs.Sheets.{number, note, listed}
use Rattle.layout.specs.Form.{list_lead, sheet_lead}
use Rattle.entries.specs.Entries.{WellFormed}
use Rattle.judging.specs.Judging.{judge_records}
use Rattle.cutting.specs.Cutting.{cut_records, cut_buffer}
use Rattle.reading.specs.Whole.{HouseNetwork, HouseSheet, HouseList, network_of, sheet_of, list_of}

-- To agree on a box is to list the same route for it, or none of the two to have an entry.
abbrev pub ListsAgree : HouseNetwork → HouseList → HouseList → Type 0
ListsAgree N L M = All (λ (b : Own Route Demand). listed L b.id ≡ listed M b.id) (own_boxes N)

-- The same of sheets: the same fragment number and note, or none of the two to have an entry.
abbrev pub SheetsAgree : HouseNetwork → HouseSheet → HouseSheet → Type 0
SheetsAgree N S T = All (λ (b : Own Route Demand). (number S b.id ≡ number T b.id) × (note S b.id ≡ note T b.id)) (own_boxes N)

-- Two well-formed lists that agree on a network's own boxes get the same answer from it: verdict, finding, count, refusal. A fragment is
-- a network like any other here.
abbrev pub SameAnswer : List ℕ → List ℕ → List ℕ → Type 0
SameAnswer network list other = WellFormed list_lead list → WellFormed list_lead other
    → ListsAgree (network_of network) (list_of list) (list_of other) → judge_records network list ≡ judge_records network other

-- Two well-formed sheets that agree on a network's own boxes get the same answer from the cutter, and leave the same bytes in a lent buffer,
-- whatever fragment is asked and whatever buffer is lent.
abbrev pub SameCut : List ℕ → List ℕ → List ℕ → Type 0
SameCut network sheet other = Bytes network → WellFormed sheet_lead sheet → WellFormed sheet_lead other
    → SheetsAgree (network_of network) (sheet_of sheet) (sheet_of other) → (k : ℕ) (out : List ℕ)
    → (cut_records network sheet k (length out) ≡ cut_records network other k (length out)) × (cut_buffer network sheet k out ≡ cut_buffer network other k out)

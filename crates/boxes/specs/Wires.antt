-- Steps along the wires, by their offsets, and where the wires into a box begin.
use Rattle.std.specs.Prelude.{ℕ, ◌<◌, ◌≤◌, cond, List, ◌≡◌, ltb, length, Some, None}
use Rattle.lists.specs.First.{first_bad}
use Rattle.numbers.specs.BigEndian.{u16_at}
use Rattle.routes.specs.declared.Route.{Route}
use Rattle.reading.specs.House.{house}
use Rattle.networks.specs.Network.{Wire}
use Rattle.networks.specs.Solution.{mapping, trans}
use Rattle.layout.specs.Layout.{edge_count, edge_offset}
use Rattle.layout.specs.declared.Form.{Form}
use Rattle.records.specs.Edge.{edge_to}
use Rattle.reading.specs.Parts.{wire_at}
use Rattle.reading.specs.Whole.{read_network, read_list}
use Rattle.routes.specs.Carry.{highest}
use Rattle.boxes.specs.declared.NextWire.{NextWire}

-- a wire stands at the offset
pub record WireAt (f : Form) (network : List ℕ) (o : ℕ) : Type 0 where
  pub row : ℕ
  pub there : row < edge_count network
  pub at : o ≡ edge_offset f network row

-- a wire stands there, or the last one ends there
pub record WireEnd (f : Form) (network : List ℕ) (o : ℕ) : Type 0 where
  pub row : ℕ
  pub there : row ≤ edge_count network
  pub at : o ≡ edge_offset f network row

-- the wire at an offset with its to end, or with none where the record ends
unfoldable pub next_from : List ℕ → ℕ → NextWire
next_from network o = record { at = o; to = cond (ltb o (length network)) (Some (u16_at network o)) None }

-- the row of the first wire that leads to a box with this id or a higher one, or the number of wires: wires stand by their to end
unfoldable pub row_into : Form → List ℕ → ℕ → ℕ
row_into f network id = first_bad (λ j. ltb (edge_to f network j) id) (edge_count network)

-- what a wire gives, where each box holds what the list and the network say
abbrev pub given_by : Form → List ℕ → List ℕ → Wire → Route
given_by f network list w = trans (house highest) (read_network f network) w (mapping (house highest) (read_network f network) (read_list f list) w.from)

-- what the wire at an offset gives
unfoldable pub offer_at : Form → List ℕ → List ℕ → ℕ → Route
offer_at f network list o = given_by f network list (wire_at network o)

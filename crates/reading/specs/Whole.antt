-- Networks, sheets and route lists as whole records (document 01, 'Records'): what the bytes say, and what is written.
use Rattle.std.specs.Prelude.{ℕ, ◌+◌, ◌≤◌, List, ◌∷◌, ◌++◌, length}
use Rattle.lists.specs.All.{All}
use Rattle.lists.specs.Rows.{rows, laid_rows}
use Rattle.lists.specs.Sorted.{Rises}
use Rattle.numbers.specs.BigEndian.{u16_bytes, u32_bytes}
use Rattle.routes.specs.Form.{policy_at, policy_bytes}
use Rattle.routes.specs.declared.Demand.{Demand}
use Rattle.routes.specs.declared.Policy.{Policy}
use Rattle.routes.specs.declared.Route.{Route}
use Rattle.networks.specs.Network.{Network}
use Rattle.networks.specs.Sound.{Bounds}
use Rattle.networks.specs.Sheets.{SheetEntry, ListEntry, Sheet, RouteList}
use Rattle.layout.specs.Form.{node_width, entry_width, list_lead, sheet_lead, form_of}
use Rattle.layout.specs.Layout.{node_count, edge_count, policy_count, node_part, edge_part, entry_count}
use Rattle.layout.specs.declared.Form.{Form}
use Rattle.reading.specs.Parts.{box_at, box_bytes, wire_at, wire_bytes, sheet_entry_at, sheet_entry_bytes, list_entry_at, list_entry_bytes}

-- the networks, sheets and lists that records hold
abbrev pub HouseNetwork : Type 0
HouseNetwork = Network Route Policy Demand

abbrev pub HouseSheet : Type 0
HouseSheet = Sheet Route

abbrev pub HouseList : Type 0
HouseList = RouteList Route

-- the greatest counts of a network
abbrev pub bounds : Form → Bounds
bounds f = record { boxes = f.most; wires = 4096; policies = 64 }

-- a record of a form: the length of what follows it, the version, and the rest
abbrev pub record_of : Form → List ℕ → List ℕ
record_of f rest = u32_bytes (length rest + 1) ++ (f.version ∷ rest)

module _ (f : Form) where
  unfoldable pub read_network : List ℕ → HouseNetwork
  read_network b = record {
    policies = rows (policy_at b) 13 10 (policy_count b);
    boxes = rows (box_at f.route b) (node_width f) (node_part b) (node_count b);
    wires = rows (wire_at b) 5 (edge_part f b) (edge_count b);
  }

  -- node count, edge count, policy count; policies, nodes, edges
  unfoldable pub write_network : HouseNetwork → List ℕ
  write_network N = record_of f
      (u16_bytes (length N.boxes) ++ (u16_bytes (length N.wires) ++ (length N.policies ∷
      (laid_rows policy_bytes N.policies ++ (laid_rows (box_bytes f.route) N.boxes ++ laid_rows wire_bytes N.wires)))))

  unfoldable pub read_sheet : List ℕ → HouseSheet
  read_sheet b = rows (sheet_entry_at f.route b) (entry_width f sheet_lead) 7 (entry_count b)

  unfoldable pub write_sheet : HouseSheet → List ℕ
  write_sheet S = record_of f (u16_bytes (length S) ++ laid_rows (sheet_entry_bytes f.route) S)

  unfoldable pub read_list : List ℕ → HouseList
  read_list b = rows (list_entry_at f.route b) (entry_width f list_lead) 7 (entry_count b)

  unfoldable pub write_list : HouseList → List ℕ
  write_list L = record_of f (u16_bytes (length L) ++ laid_rows (list_entry_bytes f.route) L)

-- what the bytes of a record say, by its own form
abbrev pub network_of : List ℕ → HouseNetwork
network_of b = read_network (form_of b) b

abbrev pub sheet_of : List ℕ → HouseSheet
sheet_of b = read_sheet (form_of b) b

abbrev pub list_of : List ℕ → HouseList
list_of b = read_list (form_of b) b

-- sheets and lists that a record can hold: entries by rising id, no more than the greatest number, fragment numbers up to 63
pub record SheetFormed (f : Form) (S : HouseSheet) : Type 0 where
  pub few : length S ≤ f.most
  pub rises : Rises (λ (e : SheetEntry Route). e.id) 0 S
  pub fragments : All (λ (e : SheetEntry Route). e.fragment ≤ 63) S

pub record ListFormed (f : Form) (L : HouseList) : Type 0 where
  pub few : length L ≤ f.most
  pub rises : Rises (λ (e : ListEntry Route). e.id) 0 L

-- What the two records say of a box's route, by the box's row: the one that the list has for an own box, and the one that is assumed of an
-- input.
use mathlib.Core.Path.{◌≡◌, refl, ap, ◌∙◌}
use mathlib.Core.Bool.{true, false}
use mathlib.Core.List.{List}
use mathlib.Core.Option.{Option, some, map, get_or}
use Prim.Native.Nat.{ℕ, ◌+◌, ◌<◌}
use borrow.Author.Tests.{lt-ltb}
use Rattle.lists.specs.Rising.{Rising}
use Rattle.lists.proofs.Table.{find_rows}
use Rattle.routes.specs.Carry.{highest}
use Rattle.routes.specs.Form.{route_at}
use Rattle.routes.specs.declared.Demand.{Demand}
use Rattle.routes.specs.declared.Route.{Route}
use Rattle.routes.specs.declared.Route.TheVariants.{None}
use Rattle.reading.specs.House.{house}
use Rattle.networks.specs.Judge.{held}
use Rattle.networks.specs.Network.{Box, box}
use Rattle.networks.specs.Sheets.{ListEntry, listed}
use Rattle.networks.specs.Solution.{route_of, mapping}
use Rattle.layout.specs.Layout.{entry_count, entry_offset, node_count, node_offset}
use Rattle.entries.specs.Entries.{entry_id, entry_of}
use Rattle.layout.specs.Form.{entry_width, list_lead}
use Rattle.nodes.specs.Node.{node_id, is_own}
use Rattle.records.specs.Edge.{boxed}
use Rattle.records.proofs.RowLaws.{row_is, row_boxed}
use Rattle.layout.specs.declared.Form.{Form}
use Rattle.reading.specs.Parts.{box_at, list_entry_at}
use Rattle.reading.specs.Whole.{HouseNetwork, HouseList, read_network, read_list}
use Rattle.reading.proofs.Said.{read_find}

module _ (f : Form) (network list : List ℕ) where
  abbrev N : HouseNetwork
  N = read_network f network

  abbrev L : HouseList
  L = read_list f list

  -- the list's route for an id, by its entry's row
  pub listed_at : (x : ℕ) → entry_of f list_lead list x < entry_count list
      → listed L x ≡ some (route_at f.route list (entry_offset f list_lead (entry_of f list_lead list x) + 2))
  unfolding listed read_list entry_of entry_id entry_offset list_entry_at
  listed_at x l =
      ap (map (λ (e : ListEntry Route). e.route))
      (find_rows (λ (e : ListEntry Route). e.id) (list_entry_at f.route list) (entry_width f list_lead) 7 (entry_count list) x)
      ∙ rw (lt-ltb (entry_of f list_lead list x) (entry_count list) l)

  -- the box in a row
  module _ (rising : Rising (node_id f network) (node_count network)) (i : ℕ) (l : i < node_count network) where
    box_in_lem : box N (node_id f network i) ≡ some (box_at f.route network (node_offset f network i))
    unfolding boxed node_offset
    box_in_lem =
        read_find f network (node_id f network i)
        ∙ rw (row_boxed f network (node_id f network i) i rising l refl, row_is f network (node_id f network i) i rising l refl)

    pub mapping_own : is_own f network i ≡ true → mapping (house highest) N L (node_id f network i) ≡ held (house highest) L (node_id f network i)
    unfolding mapping box_at is_own node_id
    mapping_own q = ap (λ (o : Option (Box Route Demand)). get_or (route_of L o) None) box_in_lem ∙ rw q

    pub mapping_input : is_own f network i ≡ false → mapping (house highest) N L (node_id f network i) ≡ route_at f.route network (node_offset f network i + 3)
    unfolding mapping box_at is_own
    mapping_input q = ap (λ (o : Option (Box Route Demand)). get_or (route_of L o) None) box_in_lem ∙ rw q

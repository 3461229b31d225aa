-- The joint network of what two records say, and its nodes and edges as bytes.
--     joined_in                     the joint network
--     nodes_merged, edges_merged     its nodes and its edges
--     met_at, lower_box              of two nodes with one id the one that stays; of the nodes at two fronts what comes next
--     Two, Left                    what the writers ask: two networks that are not refused, and rows that are left
use Rattle.std.specs.Prelude.{ℕ, ◌+◌, ◌≤◌, ◌<◌, cond, List, ltb}
use Rattle.lists.specs.Rows.{laid_rows}
use Rattle.routes.specs.declared.Demand.{Demand}
use Rattle.routes.specs.declared.Route.{Route}
use Rattle.networks.specs.Join.{meeting, joining}
use Rattle.networks.specs.Network.{Box}
use Rattle.layout.specs.Layout.{node_offset}
use Rattle.layout.specs.declared.Form.{Form}
use Rattle.records.specs.Checked.{CheckedNetwork}
use Rattle.reading.specs.Parts.{box_at, box_bytes, wire_bytes}
use Rattle.reading.specs.Whole.{HouseNetwork, read_network}
use Rattle.merging.specs.Front.{front_id}

-- of two boxes with one id, which stand at offsets of two records, the one that stays
abbrev pub met_at : Form → List ℕ → ℕ → List ℕ → ℕ → Box Route Demand
met_at f first at second bt = meeting (box_at f.route first at) (box_at f.route second bt)

module _ (f : Form) (first second : List ℕ) where
  unfoldable pub joined_in : HouseNetwork
  joined_in = joining (read_network f first) (read_network f second)

  abbrev pub nodes_merged : List ℕ
  nodes_merged = laid_rows (box_bytes f.route) joined_in.boxes

  abbrev pub edges_merged : List ℕ
  edges_merged = laid_rows wire_bytes joined_in.wires

  -- two networks, of one form, that are not refused
  pub record Two : Type 0 where
    pub one : CheckedNetwork f first
    pub other : CheckedNetwork f second

  -- rows are left in at least one of them: not all n of the one and all m of the other are behind
  pub record Left (p n q m : ℕ) : Type 0 where
    pub one_within : p ≤ n
    pub other_within : q ≤ m
    pub left : p + q < n + m

  -- the box at the lower of two fronts, in rows p and q
  unfoldable pub lower_box : ℕ → ℕ → Box Route Demand
  lower_box p q =
      cond (ltb (front_id f first p) (front_id f second q)) (box_at f.route first (node_offset f first p))
      (cond (ltb (front_id f second q) (front_id f first p)) (box_at f.route second (node_offset f second q))
      (met_at f first (node_offset f first p) second (node_offset f second q)))

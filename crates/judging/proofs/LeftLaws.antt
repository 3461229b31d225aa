-- What the search has still to look at, and what it comes to.
--     boxes_from                the boxes that are still to be looked at
--     Skipped                  for every id from a least one on, only the wires from j on matter
--     DueFrom                      what the wires from j on make of a route is the due route
--     stopped_at                the verdict where a box was judged
--     Left                     the verdict from here is the verdict from the start
use mathlib.Core.Path.{◌≡◌, sym, ap, ap₂, ◌∙◌}
use mathlib.Core.Bool.{true, false}
use mathlib.Core.List.{List, ◌∷◌, map, filter_map}
use mathlib.Core.Option.{Option}
use Prim.Native.Nat.{ℕ, suc, ◌+◌, ◌-◌, ◌≤◌, ◌<◌}
use native.Mathlib.Nat.{sub-zero}
use native.Mathlib.Numerals.{add-one}
use native.Mathlib.Omega.{arith}
use Rattle.lists.specs.Best.{best}
use Rattle.lists.specs.Rows.{rows}
use Rattle.lists.proofs.Rows.{rows_next, rows_end}
use Rattle.lists.specs.Stride.{at}
use Rattle.lists.proofs.Stride.{at_zero}
use Rattle.numbers.specs.BigEndian.{u16_at}
use Rattle.routes.specs.Form.{route_at}
use Rattle.routes.specs.Order.{beats}
use Rattle.routes.specs.declared.Demand.{Demand}
use Rattle.routes.specs.declared.Route.{Route}
use Rattle.lists.specs.Answer.{given, Answer}
use Rattle.reading.specs.House.{house}
use Rattle.networks.specs.Judge.{Finding, pass, held, first_finding, fault, stop, verdict_from, Verdict}
use Rattle.networks.specs.Network.{Own, Box, Wire, as_own}
use Rattle.networks.specs.Solution.{best_of, due}
use Rattle.records.specs.Edge.{edge_to}
use Rattle.layout.specs.Form.{node_width}
use Rattle.layout.specs.Layout.{node_count, edge_count, node_part, node_offset, edge_offset}
use Rattle.nodes.specs.Node.{node_id, is_own}
use Rattle.layout.specs.declared.Form.{Form}
use Rattle.reading.specs.Parts.{box_at, promise_at, demand_at}
use Rattle.reading.specs.Whole.{HouseNetwork, HouseList, read_network, read_list}
use Rattle.routes.specs.Carry.{highest}
use Rattle.judging.specs.Judging.{verdict_at}
use Rattle.records.specs.Checked.{CheckedNetwork}
use Rattle.boxes.specs.OwnBox.{fault_of}
use Rattle.boxes.specs.Wires.{given_by, offer_at}
use Rattle.boxes.proofs.IntoLaws.{wires_from, into, wires_start, wire_other, wire_mine, wires_past}

module _ (f : Form) (network list : List ℕ) where
  abbrev N : HouseNetwork
  N = read_network f network

  abbrev L : HouseList
  L = read_list f list

  abbrev pub boxes_from : ℕ → List (Box Route Demand)
  boxes_from i = rows (box_at f.route network) (node_width f) (at (node_part network) (node_width f) i) (node_count network - i)

  -- the best of a route and what these wires give a box
  abbrev pub due_over : ℕ → Route → List Wire → Route
  due_over node r ws = best_of (house highest) r (map (given_by f network list) (into f network node ws))

  pub record Skipped (j lo : ℕ) : Type 0 where
    pub skipped : (node : ℕ) → lo ≤ node → into f network node N.wires ≡ into f network node (wires_from f network j)

  -- the due route of a box with an initial route, from the wires that are left
  pub record DueFrom (node : ℕ) (initial r : Route) (j : ℕ) : Type 0 where
    pub is : due_over node initial N.wires ≡ due_over node r (wires_from f network j)

  pub record Left (i count : ℕ) : Type 0 where
    pub is : given (verdict_from (house highest) N L count (filter_map as_own (boxes_from i))) ≡ verdict_at f network list

  -- the verdict where a box was judged with this finding, or none, and those from row i on are left
  abbrev pub stopped_at : Option (Finding Route) → ℕ → ℕ → ℕ → Answer (Verdict Route)
  stopped_at y node count i = given (stop (house highest) y node count (verdict_from (house highest) N L count (filter_map as_own (boxes_from i))))

  boxes_start : N.boxes ≡ boxes_from 0
  unfolding read_network
  boxes_start = ap₂ (rows (box_at f.route network) (node_width f)) (sym (at_zero (node_part network) (node_width f))) (sym (sub-zero (node_count network)))

  pub skip_start : (lo : ℕ) → Skipped 0 lo
  skip_start lo = record { skipped = λ node l. ap (into f network node) (wires_start f network) }

  pub left_start : Left 0 0
  unfolding verdict_at
  left_start = record { is = ap (λ (vs : List (Box Route Demand)). given (verdict_from (house highest) N L 0 (filter_map as_own vs))) (sym boxes_start) }

  -- one wire
  module _ (j : ℕ) (l : j < edge_count network) where
    pub wire_skips : (node : ℕ) → edge_to f network j ≤ node → Skipped j (node + 1) → Skipped (j + 1) (node + 1)
    wire_skips node m k = record { skipped = λ x g. k.skipped x g ∙ wire_other f network j l x (λ e. omega arith) }

    pub wire_due : (node : ℕ) (initial r x : Route) → edge_to f network j ≡ node → x ≡ best beats r (offer_at f network list (edge_offset f network j))
        → DueFrom node initial r j → DueFrom node initial x (j + 1)
    unfolding offer_at
    wire_due node initial r x e q d = record {
      is = d.is
          ∙ ap (λ (ws : List Wire). best_of (house highest) r (map (given_by f network list) ws)) (wire_mine f network j l node e)
          ∙ ap (λ (y : Route). due_over node y (wires_from f network (j + 1))) (sym q);
    }

  -- past the last wire into a box
  pub due_past : CheckedNetwork f network → (node j : ℕ) (initial r : Route) → j ≤ edge_count network → (j < edge_count network → node < edge_to f network j)
      → DueFrom node initial r j → due_over node initial N.wires ≡ r
  due_past checked node j initial r l h d =
      d.is ∙ ap (λ (ws : List Wire). best_of (house highest) r (map (given_by f network list) ws)) (wires_past f network checked node j l h)

  -- one box
  pub skip_more : (j lo hi : ℕ) → lo ≤ hi → Skipped j lo → Skipped j hi
  skip_more j lo hi l k = record { skipped = λ node g. k.skipped node (omega arith) }

  pub due_start : (node j lo : ℕ) (initial : Route) → lo ≤ node → Skipped j lo → DueFrom node initial initial j
  due_start node j lo initial l k = record { is = ap (λ (ws : List Wire). best_of (house highest) initial (map (given_by f network list) ws)) (k.skipped node l) }

  module _ (i count : ℕ) (h : Left i count) where
    pub left_end : node_count network ≤ i → given (pass count) ≡ verdict_at f network list
    unfolding verdict_from filter_map
    left_end l = rw (rows_end (box_at f.route network) (node_width f) (node_part network) (node_count network) i l) at h.is

    module _ (l : i < node_count network) where
      here : given (verdict_from (house highest) N L count (filter_map as_own (box_at f.route network (at (node_part network) (node_width f) i) ∷ boxes_from (i + 1))))
          ≡ verdict_at f network list
      here = rw (rows_next (box_at f.route network) (node_width f) (node_part network) (node_count network) i l) at h.is

      pub left_input : is_own f network i ≡ false → Left (i + 1) count
      unfolding is_own box_at node_offset filter_map
      left_input q = record { is = rw q at here }

      -- the box in the row, as the network has it
      module _ (q : is_own f network i ≡ true) where
        abbrev box : Own Route Demand
        box = record {
          id = u16_at network (at (node_part network) (node_width f) i);
          initial = route_at f.route network (at (node_part network) (node_width f) i + 3);
          promise = promise_at f.route network (at (node_part network) (node_width f) i + 3 + f.route);
          demand = demand_at network (at (node_part network) (node_width f) i + 4 + f.route + f.route);
        }

        own_here : stopped_at (fault (house highest) N L box) box.id (suc count) (i + 1) ≡ verdict_at f network list
        unfolding is_own box_at node_offset filter_map verdict_from
        own_here = rw q at here

        fault_is : (x u : Route) → x ≡ held (house highest) L (node_id f network i) → due_over (node_id f network i) box.initial N.wires ≡ u
            → fault (house highest) N L box ≡ fault_of f network i x u
        unfolding fault fault_of due node_id node_offset
        fault_is x u e d = ap₂ (λ (a b : Route). first_finding (house highest) a b box.promise box.demand) (sym e) d

        pub left_fault : (node : ℕ) (initial x u : Route) (y : Option (Finding Route)) → node ≡ node_id f network i
            → initial ≡ route_at f.route network (node_offset f network i + 3)
            → x ≡ held (house highest) L (node_id f network i) → due_over node initial N.wires ≡ u → y ≡ fault_of f network i x u
            → stopped_at y node (count + 1) (i + 1) ≡ verdict_at f network list
        unfolding node_id node_offset
        left_fault node initial x u y p r e d w =
            let is : fault (house highest) N L box ≡ y = fault_is x u e (ap₂ (λ (k : ℕ) (z : Route). due_over k z N.wires) (sym p) (sym r) ∙ d) ∙ sym w in
            ap (λ (t : Option (Finding Route)). stopped_at t node (count + 1) (i + 1)) (sym is)
            ∙ ap₂ (λ (k c : ℕ). stopped_at (fault (house highest) N L box) k c (i + 1)) p (add-one count)
            ∙ own_here

-- Whom a box has its route from, as the code finds it: the wires into a box stand one behind another, by rising sender, so that the
-- first that gives the route is the lowest sender's.
--     Supplying, supplying      the loop over the wires into a box
--     senders                   whether the trail stops at a box
use mathlib.Core.Path.{◌≡◌, sym, ap, ◌∙◌}
use mathlib.Core.Bool.{Bool, true, false, cond, not}
use mathlib.Core.List.{List}
use mathlib.Core.Option.{none, some, map}
use mathlib.Core.Option as maybe
use Rattle.std.proofs.Common.{Option, Some}
use Prim.Native.Nat.{ℕ, ◌+◌, ◌-◌, ◌≤◌, ◌<◌}
use native.Mathlib.Omega.{arith}
use lib.Dec.{ltb}
use lib.ListN.{length}
use borrow.Author.Tests.{ltb-true, ltb-false, not-true, not-false}
use Rattle.lists.specs.Filter.{first_that}
use Rattle.lists.proofs.First.{first_le, first_all, first_fails}
use Rattle.numbers.specs.BigEndian.{u16_at}
use Rattle.routes.specs.Carry.{highest}
use Rattle.routes.specs.Order.{same}
use Rattle.routes.specs.declared.Demand.{Demand}
use Rattle.routes.specs.declared.Route.{Route}
use Rattle.networks.specs.Network.{Box, Wire, box}
use Rattle.networks.specs.Trail.{gives, stops, supplier, sender}
use Rattle.layout.specs.Layout.{edge_count, node_offset, edge_offset}
use Rattle.layout.specs.declared.Form.{Form}
use Rattle.nodes.specs.Node.{row_of, is_own}
use Rattle.records.specs.Checked.{CheckedNetwork}
use Rattle.records.specs.Edge.{boxed, edge_to}
use Rattle.reading.specs.House.{house}
use Rattle.reading.specs.Parts.{box_at, wire_at}
use Rattle.reading.specs.Whole.{HouseNetwork, read_network}
use Rattle.reading.proofs.Said.{own_row, input_row, read_find}
use Rattle.boxes.specs.OwnBox.{own_box_at}
use Rattle.boxes.specs.Wires.{WireAt, next_from, row_into, offer_at}
use Rattle.boxes.specs.declared.NextWire.{NextWire}
use Rattle.boxes.specs.declared.OwnBox.{OwnBox}
use Rattle.boxes.proofs.IntoLaws.{leads, wires_from, into, wire_mine, wires_skipped, wires_past, NextAt, next_at, next_there, next_into, next_wire, next_less, next_next, next_past, to_climbs}
use Rattle.tracing.specs.Tracing.{mapping_in, supplier_in, sender_in, sender_of}

-- the wires from the j-th on have the first that gives the route
pub record SupplyingFacts (f : Form) (network list : List ℕ) (id : ℕ) (route : Route) (wire : NextWire) : Type 0 where
  pub checked : CheckedNetwork f network
  pub j : ℕ
  pub next : NextAt f network wire j
  pub ahead : j < edge_count network → id ≤ edge_to f network j
  pub left : map (λ (w : Wire). w.from)
      (first_that (gives (house highest) (read_network f network) (mapping_in f network list) route) (into f network id (wires_from f network j)))
      ≡ supplier_in f network list id

unfoldable pub Supplying : Form → List ℕ → List ℕ → ℕ → Route → NextWire → Type 0
Supplying f network list id route wire = SupplyingFacts f network list id route wire

module _ (f : Form) (network list : List ℕ) (id : ℕ) (route : Route) where
  abbrev N : HouseNetwork
  N = read_network f network

  -- the sender of the first of these wires that gives the route
  abbrev first_sender : List Wire → maybe.Option ℕ
  first_sender ws = map (λ (w : Wire). w.from) (first_that (gives (house highest) N (mapping_in f network list) route) ws)

  pub supply_start : (wire : NextWire) → CheckedNetwork f network → route ≡ mapping_in f network list id
      → wire ≡ next_from network (edge_offset f network (row_into f network id)) → Supplying f network list id route wire
  unfolding Supplying row_into supplier
  supply_start wire h q e =
      let n = edge_count network in
      let ok : ℕ → Bool = λ k. ltb (edge_to f network k) id in
      record {
        checked = h;
        j = row_into f network id;
        next = record { within = first_le ok n; is = e };
        ahead = λ l. ltb-false _ _ (first_fails ok n l);
        left =
            ap first_sender (sym (wires_skipped f network id (row_into f network id) (first_le ok n) (λ k l. ltb-true _ _ (first_all ok n k l))))
            ∙ rw q;
      }

  module _ (wire : NextWire) (kept : Supplying f network list id route wire) where
    s : SupplyingFacts f network list id route wire
    unfolding Supplying
    s = kept

    supply_checked : CheckedNetwork f network
    supply_checked = s.checked

    -- a wire into the box
    module _ (e : wire.to ≡ Some id) where
      pub supply_wire : WireAt f network wire.at
      supply_wire = next_wire f network supply_checked wire s.j s.next id e

      there : s.j < edge_count network
      there = next_there f network supply_checked wire s.j s.next id e

      mine : edge_to f network s.j ≡ id
      mine = next_into f network supply_checked wire s.j s.next id e

      module _ (x : Route) (o : x ≡ offer_at f network list wire.at) (t : Bool) (y : t ≡ same route x) where
        -- whether the wire gives the route
        given_is : gives (house highest) N (mapping_in f network list) route (wire_at network (edge_offset f network s.j)) ≡ t
        unfolding offer_at
        given_is = sym (y ∙ ap (same route) (o ∙ ap (offer_at f network list) (next_at f network supply_checked wire s.j s.next)))

        pub supply_found : (from : ℕ) → t ≡ true → from ≡ u16_at network (wire.at + 2) → some from ≡ supplier_in f network list id
        unfolding wire_at
        supply_found from z u =
            ap some (u ∙ ap (λ (a : ℕ). u16_at network (a + 2)) (next_at f network supply_checked wire s.j s.next))
            ∙ sym (ap first_sender (wire_mine f network s.j there id mine) ∙ rw (given_is ∙ z))
            ∙ s.left

        pub supply_less : (behind : NextWire) → behind ≡ next_from network (wire.at + 5) → length network - behind.at < length network - wire.at
        supply_less behind g = next_less f network supply_checked wire s.j s.next id e behind g

        pub supply_next : (behind : NextWire) → t ≡ false → behind ≡ next_from network (wire.at + 5) → Supplying f network list id route behind
        unfolding Supplying
        supply_next behind z g = record {
          checked = s.checked;
          j = s.j + 1;
          next = next_next f network supply_checked wire s.j s.next id e behind g;
          ahead = λ m. let i = mine in omega (arith, to_climbs f network supply_checked s.j (s.j + 1) (omega arith) m);
          left = sym (ap first_sender (wire_mine f network s.j there id mine) ∙ rw (given_is ∙ z)) ∙ s.left;
        }

    -- no further wire into it
    pub supply_end : (wire.to ≡ Some id → ⊥) → none ≡ supplier_in f network list id
    supply_end ne =
        let past : s.j < edge_count network → id < edge_to f network s.j =
        λ m. let z = next_past f network supply_checked wire s.j s.next id ne (λ l. let a = s.ahead l in omega arith) m in omega arith in
        sym (ap first_sender (wires_past f network supply_checked id s.j s.next.within past)) ∙ s.left

pub ruleset supplying = (leads, supply_start, supply_wire, supply_found, supply_less, supply_next, supply_end)

-- whether the trail stops at a box
module _ (f : Form) (network list : List ℕ) (id : ℕ) (b : boxed f network id ≡ true) (route : Route) (q : route ≡ mapping_in f network list id) where
  box_there : box (read_network f network) id ≡ some (box_at f.route network (node_offset f network (row_of f network id)))
  unfolding boxed node_offset
  box_there = read_find f network id ∙ rw b

  -- the sender, by the box
  sender_by : (v : Box Route Demand) → box_at f.route network (node_offset f network (row_of f network id)) ≡ v
      → sender_in f network list id ≡ cond (stops (house highest) (read_network f network) (mapping_in f network list) (some v) route) none (supplier_in f network list id)
  unfolding sender
  sender_by v e = rw (box_there ∙ ap some e, q)

  module _ (row : ℕ) (r : row ≡ row_of f network id) (t : Bool) (w : t ≡ is_own f network row) where
    pub sent_input : not t ≡ true → none ≡ sender_in f network list id
    sent_input z = sym (sender_by _ (input_row f network (row_of f network id) (rw r at (sym w ∙ not-true t z))))

    module _ (z : not t ≡ false) (v : OwnBox) (p : v ≡ own_box_at f network row) (x : Bool) (y : x ≡ same route v.initial) where
      sent_by : sender_in f network list id ≡ cond x none (supplier_in f network list id)
      unfolding own_box_at
      sent_by =
          sender_by _ (own_row f network (row_of f network id) (rw r at (sym w ∙ not-false t z)))
          ∙ ap (λ (i : Bool). cond i none (supplier_in f network list id)) (sym (y ∙ ap (λ (o : OwnBox). same route o.initial) (p ∙ ap (own_box_at f network) r)))

      pub sent_start : x ≡ true → none ≡ sender_in f network list id
      sent_start u = sym (sent_by ∙ rw u)

      pub sent_on : (a : Option ℕ) → x ≡ false → sender_of a ≡ supplier_in f network list id → sender_of a ≡ sender_in f network list id
      sent_on a u g = g ∙ sym (sent_by ∙ rw u)

pub ruleset senders = (sent_input, sent_start, sent_on)

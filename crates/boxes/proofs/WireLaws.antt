-- The wires as the code reads them: the one at an offset, the one behind it, and what each gives.
--     wire_froms, wire_behinds, wire_firsts     from one wire to the next
--     halving, wire_intos                       where the wires into a box begin
--     trans_at_lem                                  what a wire makes of a route, by its policy
--     offers, over_is                           what a wire gives, by its sender's route
use Rattle.std.proofs.Common.{Some, None}
use mathlib.Core.Path.{◌≡◌, sym, ap, ap₂, ◌∙◌}
use mathlib.Core.Bool.{true}
use mathlib.Core.List.{List}
use mathlib.Core.Logic.{⊎_elim}
use Prim.Native.Nat.{ℕ, ◌+◌, ◌^◌, ◌≤◌, ◌<◌, zero-le}
use native.Mathlib.Omega.{arith}
use lib.Dec.{ltb}
use lib.ListN.{length, get_or}
use mir.Syntax.{w64}
use mir.Val.{Fits}
use borrow.Author.Tests.{lt-ltb, le-ltb}
use Rattle.lists.specs.Best.{best}
use Rattle.lists.specs.Stride.{at}
use Rattle.lists.proofs.First.{first_le}
use Rattle.lists.specs.First.{first_bad}
use Rattle.lists.proofs.Rising.{Climbing, Around, mid, around_start, around_up, around_down, around_end}
use Rattle.lists.proofs.Rows.{get_elem_rows}
use Rattle.lists.proofs.Test.{le_or_lt}
use Rattle.numbers.specs.BigEndian.{u16_at}
use Rattle.numbers.proofs.Codecs.{u16_below}
use Rattle.routes.specs.Carry.{carried, highest}
use Rattle.routes.specs.Form.{policy_at}
use Rattle.routes.specs.Order.{beats}
use Rattle.routes.specs.declared.Policy.{Policy}
use Rattle.routes.specs.declared.Route.{Route}
use Rattle.reading.specs.House.{house}
use Rattle.networks.specs.Solution.{mapping, trans}
use Rattle.records.specs.Edge.{boxed, edge_to, edge_from, edge_policy}
use Rattle.layout.specs.Layout.{node_count, edge_count, policy_offset, policy_count, node_offset, edge_part, edge_offset}
use Rattle.layout.proofs.Places.{edge_first, edge_after, edge_room, policy_room}
use Rattle.layout.specs.declared.Form.{Form}
use Rattle.reading.specs.Parts.{wire_at}
use Rattle.reading.specs.Whole.{read_network, read_list}
use Rattle.reading.proofs.Said.{Edge, edge_parts}
use Rattle.records.specs.Checked.{CheckedNetwork}
use Rattle.preparing.specs.Prepared.{Listed, Prepared}
use Rattle.boxes.specs.Wires.{WireAt, WireEnd, next_from, row_into, offer_at}
use Rattle.boxes.specs.declared.NextWire.{NextWire}
use Rattle.boxes.proofs.IntoLaws.{to_climbs}
use Rattle.preparing.proofs.PreparedLaws.{prepared_listed}

-- the wire at an offset
module _ (f : Form) (network : List ℕ) (h : CheckedNetwork f network) (o : ℕ) where
  pub wire_none : length network ≤ o → record { at = o; to = None } ≡ next_from network o
  unfolding next_from
  wire_none l = rw (le-ltb o (length network) l)

  pub wire_some : (t : ℕ) → o < length network → t ≡ u16_at network o → record { at = o; to = Some t } ≡ next_from network o
  unfolding next_from
  wire_some t l p = rw (lt-ltb o (length network) l, p)

  -- where the record does not end, a wire stands
  pub wire_there : WireEnd f network o → o < length network → WireAt f network o
  wire_there w m = ⊎_elim
      (λ (l : edge_count network ≤ w.row). let k : w.row ≡ edge_count network = let u = w.there in omega arith in
      absurd (omega (arith, w.at ∙ ap (edge_offset f network) k, h.sound.whole)))
      (λ (l : w.row < edge_count network). record { row = w.row; there = l; at = w.at })
      (le_or_lt (edge_count network) w.row)

  wire_in : WireAt f network o → o + 5 ≤ length network
  wire_in w = let e = w.at in omega (arith, edge_room f network h.room w.row w.there)

  pub wire_read : WireEnd f network o → o < length network → o + 2 ≤ length network
  wire_read w m = omega (arith, wire_in (wire_there w m))

  pub wire_fits : WireAt f network o → length network < 2 ^ 64 → Fits w64 (o + 5)
  wire_fits w g = omega (arith, wire_in w)

  pub wire_behind : WireAt f network o → WireEnd f network (o + 5)
  wire_behind w = record {
    row = w.row + 1;
    there = let l = w.there in omega arith;
    at = ap (λ (k : ℕ). k + 5) w.at ∙ sym (edge_after f network w.row);
  }

pub ruleset wire_froms = (wire_none, wire_some, wire_read)

pub ruleset wire_behinds = (wire_fits, wire_behind)

-- the first wire
module _ (f : Form) (network : List ℕ) (o : ℕ) (e : o ≡ edge_offset f network 0) where
  pub first_end : WireEnd f network o
  first_end = record { row = 0; there = zero-le; at = e }

  pub first_is : (w : NextWire) → w ≡ next_from network o → w ≡ next_from network (edge_part f network)
  first_is w q = q ∙ ap (next_from network) (e ∙ edge_first f network)

pub ruleset wire_firsts = (first_end, first_is)

-- where the wires into a box begin, by halving: the to end of the j-th wire behind a base
unfoldable pub to_at : List ℕ → ℕ → ℕ → ℕ
to_at network base j = u16_at network (at base 5 j)

pub half_start : (network : List ℕ) (base id n : ℕ) → Around (to_at network base) n id 0 n
half_start network base id n = around_start (to_at network base) n id

module _ (network : List ℕ) (base id n lo hi : ℕ) (a : Around (to_at network base) n id lo hi) where
  module _ (f : Form) (checked : CheckedNetwork f network) (k : ℕ) (b : base ≡ node_offset f network k) (p : k ≡ node_count network) (q : n ≡ edge_count network) where
    ends : to_at network base ≡ edge_to f network
    unfolding to_at edge_to edge_offset
    ends = let to : ℕ → ℕ → ℕ = λ o j. u16_at network (at o 5 j) in ap to (b ∙ ap (node_offset f network) p)

    climbs : Climbing (to_at network base) n
    climbs = rw (ends, q) (to_climbs f network checked)

    pub half_end : hi ≤ lo → lo ≡ row_into f network id
    unfolding row_into
    half_end l = around_end (to_at network base) n id lo hi a l ∙ ap₂ (λ (to : ℕ → ℕ) (m : ℕ). first_bad (λ j. ltb (to j) id) m) ends q

    module _ (l : lo < hi) (o : ℕ) (e : o ≡ at base 5 (mid lo hi)) where
      pub half_room : o + 2 ≤ length network
      unfolding edge_offset
      half_room =
          let g = a.high in
          let w : at base 5 (mid lo hi) ≡ edge_offset f network (mid lo hi) = ap (λ (x : ℕ). at x 5 (mid lo hi)) (b ∙ ap (node_offset f network) p) in
          omega (arith, edge_room f network checked.room (mid lo hi) (omega arith))

      module _ (to : ℕ) (r : to ≡ u16_at network o) where
        to_is : to ≡ to_at network base (mid lo hi)
        unfolding to_at
        to_is = r ∙ ap (u16_at network) e

        pub half_up : to < id → Around (to_at network base) n id (mid lo hi + 1) hi
        half_up t = around_up (to_at network base) n id lo hi a to climbs l to_is t

        pub half_down : id ≤ to → Around (to_at network base) n id lo (mid lo hi)
        half_down t = around_down (to_at network base) n id lo hi a to climbs l to_is t

-- the first wire to a box with this id or a higher one
module _ (f : Form) (network : List ℕ) (id j o : ℕ) (q : j ≡ row_into f network id) (e : o ≡ edge_offset f network j) where
  into_row : j ≤ edge_count network
  unfolding row_into
  into_row = rw q (first_le (λ k. ltb (edge_to f network k) id) (edge_count network))

  pub into_end : WireEnd f network o
  into_end = record { row = j; there = into_row; at = e }

  pub into_is : (w : NextWire) → w ≡ next_from network o → w ≡ next_from network (edge_offset f network (row_into f network id))
  into_is w p = p ∙ ap (next_from network) (e ∙ ap (edge_offset f network) q)

pub into_place : (f : Form) (network : List ℕ) → CheckedNetwork f network → (id j : ℕ) → j ≡ row_into f network id → j ≤ 65535
unfolding row_into
into_place f network checked id j q =
    omega (arith, q, first_le (λ k. ltb (edge_to f network k) id) (edge_count network), u16_below network 7 (checked.bytes _, checked.bytes _))

pub ruleset halving = (half_room, half_up, half_down, half_end)

pub ruleset wire_intos = (into_end, into_is, into_place)

-- what the wire at an offset makes of a route
trans_at_lem : (f : Form) (network : List ℕ) (o : ℕ) (r : Route) → get_or network (o + 4) 0 < policy_count network
    → trans (house highest) (read_network f network) (wire_at network o) r ≡ carried highest (policy_at network (policy_offset (get_or network (o + 4) 0))) r
unfolding read_network wire_at policy_offset
trans_at_lem f network o r l = rw (get_elem_rows (policy_at network) 13 10 (policy_count network) (get_or network (o + 4) 0) l)

-- what a wire gives
module _ (f : Form) (network list rows stands : List ℕ) (h : Prepared f network list rows stands) (o : ℕ) (w : WireAt f network o) where
  listed : Listed f network list
  listed = prepared_listed f network list rows stands h

  within : o + 5 ≤ length network
  within = wire_in f network listed.checked o w

  edge : Edge f network w.row
  edge = edge_parts f network w.row (listed.checked.sound.edges w.row w.there)

  pub offer_from_room : o + 2 + 2 ≤ length network
  offer_from_room = omega (arith, within)

  pub offer_policy_room : o + 4 < length network
  offer_policy_room = omega (arith, within)

  pub offer_from_fits : length network < 2 ^ 64 → Fits w64 (o + 2)
  offer_from_fits g = omega (arith, within)

  pub offer_policy_fits : length network < 2 ^ 64 → Fits w64 (o + 4)
  offer_policy_fits g = omega (arith, within)

  policy_there : get_or network (o + 4) 0 < policy_count network
  unfolding edge_policy
  policy_there = rw w.at edge.policy_there

  pub offer_policy : (k p : ℕ) → k ≡ get_or network (o + 4) 0 → p ≡ policy_offset k → p + 13 ≤ length network
  offer_policy k p q v = rw v (policy_room f network listed.checked.room k (rw q policy_there))

  -- the sender
  module _ (id : ℕ) (q : id ≡ u16_at network (o + 2)) where
    pub offer_sender : boxed f network id ≡ true
    unfolding edge_from
    offer_sender = rw (q, w.at) edge.from_there

    -- and the policy
    module _ (k p : ℕ) (c : Policy) (v : k ≡ get_or network (o + 4) 0) (z : p ≡ policy_offset k) where
      pub offer_is : (r s : Route) → c ≡ policy_at network p → r ≡ mapping (house highest) (read_network f network) (read_list f list) id
          → s ≡ carried 65535 c r → s ≡ offer_at f network list o
      unfolding offer_at wire_at
      offer_is r s d y t =
          t ∙ ap₂ (carried 65535)
          (d ∙ ap (policy_at network) (z ∙ ap policy_offset v))
          (y ∙ ap (mapping (house highest) (read_network f network) (read_list f list)) q)
          ∙ sym (trans_at_lem f network o _ policy_there)

pub ruleset offers = (offer_from_room, offer_policy_room, offer_from_fits, offer_policy_fits, offer_sender, offer_policy, offer_is)

pub over_is : (f : Form) (network list : List ℕ) (o : ℕ) (u s x : Route) → s ≡ offer_at f network list o → x ≡ best beats u s
    → x ≡ best beats u (offer_at f network list o)
over_is f network list o u s x p q = q ∙ ap (best beats u) p

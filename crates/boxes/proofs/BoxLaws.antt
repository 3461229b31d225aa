-- An own box, and its first fault, one law for each way through the tests.
use mathlib.Core.Path.{◌≡◌, sym, ap, ap₂, ◌∙◌}
use mathlib.Core.Bool.{Bool, true, false, not}
use mathlib.Core.List.{List}
use mathlib.Core.Option.{Option, none, some}
use Prim.Native.Nat.{ℕ, ◌+◌, ◌^◌, ◌≤◌, ◌<◌}
use native.Mathlib.Omega.{arith}
use lib.Dec.{eqb}
use lib.ListN.{length, get_or}
use mir.Syntax.{w64}
use mir.Val.{Fits}
use borrow.Author.Tests.{not-true, not-false}
use Rattle.numbers.specs.BigEndian.{u16_at}
use Rattle.routes.specs.Demand.{meets}
use Rattle.routes.specs.Form.{route_at}
use Rattle.routes.specs.Order.{same}
use Rattle.routes.specs.declared.Demand.{Demand}
use Rattle.routes.specs.declared.Route.{Route}
use Rattle.reading.specs.House.{house}
use Rattle.networks.specs.Judge.{Finding, held}
use Rattle.layout.specs.Layout.{Room, node_count, node_offset}
use Rattle.nodes.specs.Node.{node_id, is_own, promising, demand_of}
use Rattle.layout.proofs.Places.{node_fields_room}
use Rattle.layout.specs.declared.Form.{Form}
use Rattle.reading.specs.Parts.{promise_at, demand_at}
use Rattle.reading.specs.Whole.{read_list}
use Rattle.reading.proofs.Said.{demand_row}
use Rattle.boxes.specs.OwnBox.{unmet_of, own_box_at, fault_of}
use Rattle.routes.specs.Carry.{highest}
use Rattle.preparing.specs.Parts.{row_part}
use Rattle.preparing.specs.Prepared.{Listed, Standing}
use Rattle.preparing.proofs.PartLaws.{row_long, row_route}
use Rattle.preparing.proofs.PreparedLaws.{standing_listed}
use Rattle.preparing.proofs.Said.{mapping_own}

module _ (w : ℕ) (b : List ℕ) (o : ℕ) (held : Route) (d : Demand) (t : Bool) (e : d ≡ demand_of w b o) (h : t ≡ meets d held) where
  demanded : t ≡ meets (demand_at b (o + 4 + w + w)) held
  demanded = h ∙ ap (λ (x : Demand). meets x held) (e ∙ demand_row w b o)

  pub demand_met : t ≡ true → none ≡ unmet_of (demand_at b (o + 4 + w + w)) held
  unfolding unmet_of
  demand_met y = rw (← demanded, y)

  pub demand_unmet : t ≡ false → some (record { number = 33; route = held }) ≡ unmet_of (demand_at b (o + 4 + w + w)) held
  unfolding unmet_of
  demand_unmet y = rw (← demanded, y)

pub ruleset demands = (demand_met, demand_unmet)

module _ (f : Form) (b : List ℕ) (row : ℕ) (held due : Route) where
  pub fault_due : (t : Bool) → t ≡ same held due → not t ≡ true → some (record { number = 31; route = due }) ≡ fault_of f b row held due
  unfolding fault_of
  fault_due t e y = rw (← e, not-true t y)

  module _ (o : ℕ) (at : o ≡ node_offset f b row) where
    module _ (r : Room f b) (l : row < node_count b) where
      pub box_room : o + (9 + f.route + f.route) ≤ length b
      box_room = omega (arith, node_fields_room f b r row l)

      pub promise_room : o + 4 + f.route + f.route ≤ length b
      promise_room = omega (arith, node_fields_room f b r row l)

      pub promise_fits : length b < 2 ^ 64 → Fits w64 (o + 4 + f.route)
      promise_fits g = omega (arith, node_fields_room f b r row l)

      pub promise_base_fits : length b < 2 ^ 64 → Fits w64 (o + 4)
      promise_base_fits g = omega (arith, node_fields_room f b r row l)

    module _ (t : Bool) (e : t ≡ same held due) (y : not t ≡ false) (p : Bool) (q : p ≡ promising f.route b o) where
      no_promise : not p ≡ true → eqb (get_or b (o + 3 + f.route) 0) 0 ≡ true
      unfolding promising
      no_promise z = not-false _ (sym q ∙ not-true p z)

      a_promise : not p ≡ false → eqb (get_or b (o + 3 + f.route) 0) 0 ≡ false
      unfolding promising
      a_promise z = not-true _ (sym q ∙ not-false p z)

      pub fault_free : (x : Option (Finding Route)) → not p ≡ true → x ≡ unmet_of (demand_at b (o + 4 + f.route + f.route)) held → x ≡ fault_of f b row held due
      unfolding fault_of unmet_of promise_at
      fault_free x z g = rw (← at, ← e, not-false t y, no_promise z) g

      module _ (z : not p ≡ false) (s : Route) (k : s ≡ route_at f.route b (o + 4 + f.route)) (u : Bool) (m : u ≡ same held s) where
        promise_offset : o + 3 + f.route + 1 ≡ o + 4 + f.route
        promise_offset = omega arith

        pub fault_promise : not u ≡ true → some (record { number = 32; route = s }) ≡ fault_of f b row held due
        unfolding fault_of promise_at
        fault_promise v = rw (← at, ← e, not-false t y, a_promise z, promise_offset, ← k, ← m, not-true u v)

        pub fault_kept : (x : Option (Finding Route)) → not u ≡ false → x ≡ unmet_of (demand_at b (o + 4 + f.route + f.route)) held
            → x ≡ fault_of f b row held due
        unfolding fault_of unmet_of promise_at
        fault_kept x v g = rw (← at, ← e, not-false t y, a_promise z, promise_offset, ← k, ← m, not-false u v) g

pub ruleset faults = (fault_due, box_room, promise_room, promise_fits, promise_base_fits, fault_free, fault_promise, fault_kept)

-- the own box in a row
module _ (f : Form) (b : List ℕ) (row o : ℕ) (e : o ≡ node_offset f b row) where
  module _ (r : Room f b) (l : row < node_count b) where
    pub own_id_room : o + 2 ≤ length b
    own_id_room = omega (arith, node_fields_room f b r row l)

    pub own_route_room : o + 3 + f.route ≤ length b
    own_route_room = omega (arith, node_fields_room f b r row l)

  pub own_is : (n : ℕ) (x : Route) → n ≡ u16_at b o → x ≡ route_at f.route b (o + 3) → record { node = n; initial = x } ≡ own_box_at f b row
  unfolding own_box_at node_id
  own_is n x p q = ap₂ (λ (k : ℕ) (y : Route). record { node = k; initial = y }) (p ∙ ap (u16_at b) e) (q ∙ ap (λ (k : ℕ). route_at f.route b (k + 3)) e)

pub ruleset own_boxes_lem = (own_id_room, own_route_room, own_is)

-- it holds what the list has for it
module _ (f : Form) (network list stands : List ℕ) (h : Standing f network list stands) where
  listed : Listed f network list
  listed = standing_listed f network list stands h

  module _ (row : ℕ) (l : row < node_count network) (x : List ℕ) (g : x ≡ row_part f network list row) where
    pub held_room : 0 + f.route ≤ length x
    held_room = let e = ap length g ∙ row_long f network list row listed.checked.room listed.entries.formed l (listed.entered row l) in omega arith

    pub held_fault : (s u : Route) (y : Option (Finding Route)) → is_own f network row ≡ true → s ≡ route_at f.route x 0 → y ≡ fault_of f network row s u
        → y ≡ fault_of f network row (held (house highest) (read_list f list) (node_id f network row)) u
    held_fault s u y own q e =
        let is : s ≡ held (house highest) (read_list f list) (node_id f network row) =
        q ∙ ap (λ (b : List ℕ). route_at f.route b 0) g
        ∙ row_route f network list row listed.checked.room listed.entries.formed l (listed.entered row l) listed.checked.rising
        ∙ mapping_own f network list listed.checked.rising row l own in
        e ∙ ap (λ (r : Route). fault_of f network row r u) is

pub ruleset held_faults = (held_room, held_fault)

-- The lookup, as the code goes: a part of one record or the other, and an empty one where no node has the id.
--     row_parts     a row's route stands in the network where the count through both records is within it, and else in the list
--     box_parts     a box's route, by its row
--     box_routes    what its bytes say
--     naming        whether a node has the id
use mathlib.Core.Path.{◌≡◌, refl, sym, ap, ◌∙◌}
use mathlib.Core.Bool.{Bool, true, false, cond, not}
use borrow.Author.Tests.{not-true, not-false}
use mathlib.Core.List.{List, []}
use Prim.Native.Nat.{ℕ, ◌+◌, ◌-◌, ◌*◌, ◌^◌, ◌≤◌, ◌<◌}
use native.Mathlib.Omega.{arith}
use lib.ListN.{length, get_or, take, drop}
use mir.Syntax.{w64}
use mir.Val.{Fits}
use Rattle.records.specs.Edge.{boxed}
use Rattle.layout.specs.Layout.{node_count}
use Rattle.nodes.specs.Node.{row_of, is_own}
use Rattle.records.proofs.RowLaws.{row_within, row_found}
use Rattle.routes.specs.Carry.{highest}
use Rattle.routes.specs.Form.{route_at}
use Rattle.routes.specs.declared.Route.{Route}
use Rattle.networks.specs.Solution.{mapping}
use Rattle.reading.specs.House.{house}
use Rattle.reading.specs.Whole.{read_network, read_list}
use Rattle.layout.specs.declared.Form.{Form}
use Rattle.preparing.specs.Parts.{row_part, named_part}
use Rattle.preparing.specs.Prepared.{Listed, Standing, Prepared, stand_at, stand_of}
use Rattle.preparing.proofs.PartLaws.{part_is, in_entry, in_node, entry_part_room, node_part_room, row_long, row_route}
use Rattle.preparing.proofs.PreparedLaws.{standing_listed, standing_at, prepared_standing, prepared_filled, prepared_listed}

-- a row
module _ (f : Form) (network list stands : List ℕ) (h : Standing f network list stands) (row : ℕ) (l : row < node_count network) where
  listed : Listed f network list
  listed = standing_listed f network list stands h

  pub row_index : row < 1024
  row_index = let n = listed.checked.room.few in let u = listed.checked.room.usable.few in omega arith

  pub row_scaled : Fits w64 (row * 8)
  row_scaled = omega (arith, row_index)

  node_room : in_node f network list row + f.route ≤ length network
  node_room = node_part_room f network list row listed.checked.room listed.entries.formed l (listed.entered row l)

  entry_room : is_own f network row ≡ true → in_entry f network list row + f.route ≤ length list
  entry_room = entry_part_room f network list row listed.checked.room listed.entries.formed l (listed.entered row l)

  module _ (o : ℕ) (e : o ≡ get_or stands row 0) where
    -- in which record it stands, and where
    pub record InNetwork : Type 0 where
      pub kind : is_own f network row ≡ false
      pub at : o ≡ in_node f network list row

    pub record InList : Type 0 where
      pub kind : is_own f network row ≡ true
      pub at : o ≡ length network + in_entry f network list row

    stood : o ≡ cond (is_own f network row) (length network + in_entry f network list row) (in_node f network list row)
    unfolding stand_of stand_at
    stood = e ∙ standing_at f network list stands h row l

    in_network : o < length network → InNetwork
    in_network m = go (is_own f network row) refl stood
      where
        go : (t : Bool) → is_own f network row ≡ t → o ≡ cond t (length network + in_entry f network list row) (in_node f network list row) → InNetwork
        go true q s = absurd (omega arith)
        go false q s = record { kind = q; at = s }

    in_list : length network ≤ o → InList
    in_list m = go (is_own f network row) refl stood
      where
        go : (t : Bool) → is_own f network row ≡ t → o ≡ cond t (length network + in_entry f network list row) (in_node f network list row) → InList
        go true q s = record { kind = q; at = s }
        go false q s = absurd (let w = listed.checked.room.usable.wide in omega (arith, node_room))

    module _ (m : o < length network) where
      pub network_room : o + f.route ≤ length network
      network_room = let s = (in_network m).at in omega (arith, node_room)

      pub network_fits : length network < 2 ^ 64 → Fits w64 (o + f.route)
      network_fits g = omega (arith, network_room)

      pub network_part : take (o + f.route - o) (drop o network) ≡ row_part f network list row
      unfolding row_part
      network_part = part_is f.route network o ∙ rw ((in_network m).kind, (in_network m).at)

    module _ (m : length network ≤ o) (k : ℕ) (d : k ≡ o - length network) where
      list_at : k ≡ in_entry f network list row
      list_at = let s = (in_list m).at in omega arith

      pub list_room : k + f.route ≤ length list
      list_room = omega (arith, list_at, entry_room (in_list m).kind)

      pub list_fits : length list < 2 ^ 64 → Fits w64 (k + f.route)
      list_fits g = omega (arith, list_room)

      pub list_part : take (k + f.route - k) (drop k list) ≡ row_part f network list row
      unfolding row_part
      list_part = part_is f.route list k ∙ rw ((in_list m).kind, list_at)

pub ruleset row_parts = (row_index, row_scaled, network_room, network_fits, network_part, list_room, list_fits, list_part)

-- a box
pub box_is : (f : Form) (network list : List ℕ) (id row : ℕ) (x : List ℕ) → row ≡ row_of f network id
    → x ≡ row_part f network list row → x ≡ row_part f network list (row_of f network id)
box_is f network list id row x e g = rw (← e) g

pub ruleset box_parts = (prepared_standing, prepared_filled, box_is)

-- what they say
module _ (f : Form) (network list rows stands : List ℕ) (h : Prepared f network list rows stands) (id : ℕ) (b : boxed f network id ≡ true) where
  all : Listed f network list
  all = prepared_listed f network list rows stands h

  there : row_of f network id < node_count network
  there = row_within f network id b

  pub route_wide : 9 ≤ f.route
  route_wide = all.checked.room.usable.wide

  module _ (x : List ℕ) (g : x ≡ row_part f network list (row_of f network id)) where
    pub route_room : 0 + f.route ≤ length x
    route_room =
        let e = ap length g ∙ row_long f network list _ all.checked.room all.entries.formed there (all.entered _ there) in
        omega arith

    pub route_is : (r : Route) → r ≡ route_at f.route x 0 → r ≡ mapping (house highest) (read_network f network) (read_list f list) id
    route_is r q =
        q ∙ ap (λ (y : List ℕ). route_at f.route y 0) g
        ∙ row_route f network list _ all.checked.room all.entries.formed there (all.entered _ there) all.checked.rising
        ∙ ap (mapping (house highest) (read_network f network) (read_list f list)) (row_found f network id b)

pub ruleset box_routes = (route_wide, route_room, route_is)

-- whether a node has the id
module _ (f : Form) (network list : List ℕ) (id : ℕ) (t : Bool) (e : t ≡ boxed f network id) where
  pub named_nobody : not t ≡ true → [] ≡ named_part f network list id
  unfolding named_part
  named_nobody y = let h : boxed f network id ≡ false = sym e ∙ not-true t y in rw h

  module _ (y : not t ≡ false) where
    pub named_boxed : boxed f network id ≡ true
    named_boxed = sym e ∙ not-false t y

    pub named_box : (x : List ℕ) → x ≡ row_part f network list (row_of f network id) → x ≡ named_part f network list id
    unfolding named_part
    named_box x g = rw named_boxed g

pub ruleset naming = (named_nobody, named_boxed, named_box)

-- A part of a record that holds a route, and what it says.
--     part_is, part_long, part_route     the bytes of a route, cut out of a record
--     in_entry, in_node                    where the route of a node stands
--     entry_part_room, node_part_room    the room of the bytes of the route of a node
--     row_long, row_route                they are as many as a route has, and say what the node holds
use mathlib.Core.Path.{◌≡◌, refl, sym, ap, ap₂, ◌∙◌}
use mathlib.Core.Bool.{Bool, true, false, cond}
use mathlib.Core.List.{List}
use mathlib.Core.Option
use mathlib.Core.Option.{Option}
use Prim.Native.Nat.{ℕ, ◌+◌, ◌-◌, ◌*◌, ◌≤◌, ◌<◌}
use native.Mathlib.Omega.{arith}
use lib.Dec.{eqb}
use lib.ListN.{length, get_or, take, drop, length-drop}
use lib.Seq.{get_or-take, get_or-drop, length-take-le}
use Rattle.lists.specs.Rising.{Rising}
use Rattle.numbers.specs.BigEndian.{u16_at}
use Rattle.routes.specs.Form.{fields_at, route_at}
use Rattle.routes.specs.declared.Route.{Route}
use Rattle.routes.specs.declared.Route.TheVariants.{None, Held}
use Rattle.reading.specs.House.{house}
use Rattle.networks.specs.Solution.{mapping}
use Rattle.layout.specs.Layout.{entry_count, entry_offset, Room, node_count, node_offset}
use Rattle.entries.specs.Entries.{entry_of, EntriesFine}
use Rattle.layout.specs.Form.{list_lead}
use Rattle.nodes.specs.Node.{node_id, is_own}
use Rattle.layout.proofs.Places.{entry_within, node_fields_room}
use Rattle.layout.specs.declared.Form.{Form}
use Rattle.reading.specs.Whole.{read_network, read_list}
use Rattle.routes.specs.Carry.{highest}
use Rattle.preparing.specs.Parts.{route_part, row_part}
use Rattle.preparing.proofs.Said.{listed_at, mapping_own, mapping_input}

-- a part of a record has the record's bytes, and so says the record's route
module _ (w : ℕ) (b : List ℕ) (o : ℕ) where
  pub part_is : take (o + w - o) (drop o b) ≡ route_part w b o
  unfolding route_part
  part_is = let e : o + w - o ≡ w = omega arith in rw e

  part_byte : (i : ℕ) → i < w → get_or (route_part w b o) i 0 ≡ get_or b (o + i) 0
  unfolding route_part
  part_byte i l = get_or-take w (drop o b) i 0 l ∙ get_or-drop o b i 0

  part_u16 : (i k : ℕ) → i + 1 < w → k ≡ o + i → u16_at (route_part w b o) i ≡ u16_at b k
  unfolding u16_at
  part_u16 i k l e =
      ap₂ (λ (x y : ℕ). x * 256 + y)
      (part_byte i (omega arith) ∙ ap (λ (n : ℕ). get_or b n 0) (sym e))
      (part_byte (i + 1) l ∙ ap (λ (n : ℕ). get_or b n 0) (omega arith))

  part_fields : (i k : ℕ) → i + 8 ≤ w → k ≡ o + i → fields_at (route_part w b o) i ≡ fields_at b k
  unfolding fields_at
  part_fields i k l e = rw (
    part_u16 i k (omega arith) e,
    part_u16 (i + 2) (k + 2) (omega arith) (omega arith),
    part_u16 (i + 4) (k + 4) (omega arith) (omega arith),
    part_u16 (i + 6) (k + 6) (omega arith) (omega arith),
  )

  part_route : 9 ≤ w → route_at w (route_part w b o) 0 ≡ route_at w b o
  unfolding route_at
  part_route l =
      ap₂ (λ (x : ℕ) (y : Route). cond (eqb x 0) None y)
      (part_byte 0 (omega arith) ∙ ap (λ (n : ℕ). get_or b n 0) (omega arith))
      (ap Held (part_fields (0 + 1 + (w - 9)) (o + 1 + (w - 9)) (omega arith) (omega arith)))

  part_long : o + w ≤ length b → length (route_part w b o) ≡ w
  unfolding route_part
  part_long l = length-take-le w (drop o b) (rw length-drop (omega arith))

-- the node in a row, which has an entry where it is an own box
module _ (f : Form) (network list : List ℕ) (i : ℕ) where
  -- where its route stands in the list, and where in the network
  abbrev pub in_entry : ℕ
  in_entry = entry_offset f list_lead (entry_of f list_lead list (node_id f network i)) + list_lead

  abbrev pub in_node : ℕ
  in_node = node_offset f network i + 3

  module _ (room : Room f network) (formed : EntriesFine f list_lead list) (l : i < node_count network)
      (entered : is_own f network i ≡ true → entry_of f list_lead list (node_id f network i) < entry_count list) where
    pub entry_part_room : is_own f network i ≡ true → in_entry + f.route ≤ length list
    entry_part_room q =
        let w = formed.whole in
        omega (arith, entry_within f list_lead (entry_of f list_lead list (node_id f network i)) (entry_count list) (entered q))

    pub node_part_room : in_node + f.route ≤ length network
    node_part_room = omega (arith, node_fields_room f network room i l)

    pub row_long : length (row_part f network list i) ≡ f.route
    unfolding row_part
    row_long = go (is_own f network i) refl
      where
        go : (t : Bool) → is_own f network i ≡ t → length (cond t (route_part f.route list in_entry) (route_part f.route network in_node)) ≡ f.route
        go true q = part_long f.route list _ (entry_part_room q)
        go false q = part_long f.route network _ node_part_room

    pub row_route : Rising (node_id f network) (node_count network)
        → route_at f.route (row_part f network list i) 0 ≡ mapping (house highest) (read_network f network) (read_list f list) (node_id f network i)
    unfolding row_part
    row_route r = go (is_own f network i) refl
      where
        wide : 9 ≤ f.route
        wide = room.usable.wide

        go : (t : Bool) → is_own f network i ≡ t
            → route_at f.route (cond t (route_part f.route list in_entry) (route_part f.route network in_node)) 0
            ≡ mapping (house highest) (read_network f network) (read_list f list) (node_id f network i)
        go true q =
            part_route f.route list _ wide
            ∙ sym (ap (λ (r : Option Route). Option.get_or r None) (listed_at f network list (node_id f network i) (entered q)))
            ∙ sym (mapping_own f network list r i l q)
        go false q = part_route f.route network _ wide ∙ sym (mapping_input f network list r i l q)

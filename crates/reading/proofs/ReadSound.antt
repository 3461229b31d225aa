-- A record that none of 1 to 10 is refused of says a sound network.
use mathlib.Core.Path.{◌≡◌, refl, sym, ap, ◌∙◌}
use mathlib.Core.Bool.{true, false, not, false≢true}
use mathlib.Core.List.{List, [], ◌∷◌, filter_map}
use mathlib.Core.Option.{some, none-ne-some, some-injective}
use Prim.Native.Nat.{ℕ, ◌+◌, ◌≤◌, ◌<◌}
use native.Mathlib.Omega.{arith}
use lib.Dec.{eqb, leb}
use lib.ListN.{length, get_or}
use borrow.Author.Tests.{leb-true, eqb-false}
use Rattle.lists.specs.All.{All, any}
use Rattle.lists.proofs.All.{any_congr, all_of}
use Rattle.lists.specs.Bytes.{Bytes}
use Rattle.lists.specs.Filter.{holds}
use Rattle.lists.proofs.Filter.{any_filter_map, all_filter_map}
use Rattle.lists.specs.Rising.{least}
use Rattle.lists.proofs.Rising.{least_ext}
use Rattle.lists.proofs.Rows.{length_rows, all_rows}
use Rattle.lists.specs.Sorted.{Rises}
use Rattle.lists.specs.Stride.{at}
use Rattle.lists.proofs.Table.{rises_rows}
use Rattle.lists.proofs.Test.{and_l, or_second}
use Rattle.numbers.specs.BigEndian.{u16_at}
use Rattle.numbers.proofs.Codecs.{u16_below}
use Rattle.routes.specs.Form.{policy_at}
use Rattle.routes.specs.declared.Demand.{Demand}
use Rattle.routes.specs.declared.Route.{Route}
use Rattle.networks.specs.Network.{Own, Input, Box, own, input, ids, wire_key, box_id, as_own, as_input, is_own_box, own_boxes, inputs}
use Rattle.networks.specs.Sound.{Sound, Joined, sends}
use Rattle.layout.specs.Form.{node_width}
use Rattle.layout.specs.Layout.{node_count, edge_count, policy_count, node_part, edge_part, node_offset, edge_offset}
use Rattle.nodes.specs.Node.{node_id, node_ok, node_formed, is_own}
use Rattle.records.specs.Edge.{edge_to, edge_from, edge_policy, left_by, input_ok}
use Rattle.records.specs.Network.{NetworkFine}
use Rattle.layout.specs.declared.Form.{Form}
use Rattle.reading.specs.Parts.{box_at, wire_at}
use Rattle.reading.specs.Whole.{HouseNetwork, bounds, read_network}
use Rattle.reading.proofs.Said.{box_id_at, box_own_at, read_ids, read_keys, owns_read, has_box_read, own_read, sends_read, Edge, edge_parts}

-- an own box among the boxes is one of the own boxes
pub some_own_boxes : {R D : Type 0} (vs : List (Box R D)) → any (λ (v : Box R D). is_own_box (some v)) vs ≡ any (λ (o : Own R D). true) (filter_map as_own vs)
some_own_boxes {R} {D} vs = any_congr _ _ vs (all_of vs same) ∙ sym (any_filter_map (λ (o : Own R D). true) as_own vs)
  where
    same : (v : Box R D) → is_own_box (some v) ≡ holds (λ (o : Own R D). true) (as_own v)
    same (own v) = refl
    same (input v) = refl

pub any_length : {A : Type 0} (xs : List A) → any (λ (x : A). true) xs ≡ true → 0 < length xs
any_length [] h = absurd (false≢true h)
any_length (x ∷ xs) h = omega arith

pub input_is : (v : Box Route Demand) (a : Input Route) → as_input v ≡ some a → (a.id ≡ box_id v) × (is_own_box (some v) ≡ false)
input_is (own v) a e = absurd (none-ne-some _ e)
input_is (input x) a e = (ap (λ (y : Input Route). y.id) (sym (some-injective _ _ e)), refl)

module _ (f : Form) (b : List ℕ) (small : Bytes b) (fine : NetworkFine f b) where
  abbrev N : HouseNetwork
  N = read_network f b

  edge_tests : (j : ℕ) → j < edge_count b → Edge f b j
  edge_tests j l = edge_parts f b j (fine.edges j l)

  ids_rise : (i : ℕ) → i < node_count b → least (node_id f b) i ≤ node_id f b i
  unfolding node_ok
  ids_rise i l = leb-true _ _ (and_l (leb (least (node_id f b) i) (node_id f b i)) (node_formed f.route b (node_offset f b i)) (fine.nodes i l))

  boxes_rise : Rises box_id 0 N.boxes
  unfolding read_network
  boxes_rise = rises_rows box_id (box_at f.route b) (node_width f) (node_part b) (node_count b) (λ i l. least_ext _ _ (λ k. sym (read_ids f b k)) i (ids_rise i l))

  wires_rise : Rises wire_key 0 N.wires
  unfolding read_network
  wires_rise = rises_rows wire_key (wire_at b) 5 (edge_part f b) (edge_count b) (λ j l. least_ext _ _ (λ k. sym (read_keys f b k)) j (edge_tests j l).rises)

  ids_within : All (λ (v : Box Route Demand). box_id v < ids) N.boxes
  unfolding read_network
  ids_within = all_rows (box_at f.route b) (node_width f) _ (node_part b) (node_count b)
      (λ i l. let o = at (node_part b) (node_width f) i in rw (box_id_at f.route b o) (u16_below b o (small o, small (o + 1))))

  counts : (length N.boxes ≡ node_count b) × (length N.wires ≡ edge_count b) × (length N.policies ≡ policy_count b)
  unfolding read_network
  counts = (
    length_rows (box_at f.route b) (node_width f) (node_part b) (node_count b),
    length_rows (wire_at b) 5 (edge_part f b) (edge_count b),
    length_rows (policy_at b) 13 10 (policy_count b),
  )

  joined : (j : ℕ) → j < edge_count b → Joined N (wire_at b (at (edge_part f b) 5 j))
  unfolding wire_at edge_to edge_from edge_policy edge_offset
  joined j l =
      let e = edge_tests j l in
      record {
        to_own = owns_read f b _ ∙ e.to_own;
        from_there = has_box_read f b _ ∙ e.from_there;
        differ = eqb-false _ _ e.differ;
        policy_there = rw counts.2 e.policy_there;
      }

  wires_joined : All (Joined N) N.wires
  unfolding read_network
  wires_joined = all_rows (wire_at b) 5 (Joined N) (edge_part f b) (edge_count b) joined

  some_own : 0 < length (own_boxes N)
  some_own = any_length (own_boxes N) (sym (some_own_boxes N.boxes) ∙ own_read f b ∙ ap not fine.own)

  -- an input by its row: it is no own box, so that an edge leaves it
  input_used : (i : ℕ) → i < node_count b → (a : Input Route) → as_input (box_at f.route b (at (node_part b) (node_width f) i)) ≡ some a → sends N a.id ≡ true
  unfolding input_ok left_by is_own node_id node_offset
  input_used i l a e =
      let o = at (node_part b) (node_width f) i in
      let x = input_is (box_at f.route b o) a e in
      let foreign : eqb (get_or b (o + 2) 0) 0 ≡ false = sym (box_own_at f.route b o) ∙ x.1 in
      let named : a.id ≡ u16_at b o = x.0 ∙ box_id_at f.route b o in
      rw named (sends_read f b (u16_at b o) ∙ or_second _ _ foreign (fine.inputs i l))

  inputs_used : All (λ (a : Input Route). sends N a.id ≡ true) (inputs N)
  unfolding read_network
  inputs_used = all_filter_map _ as_input N.boxes (all_rows (box_at f.route b) (node_width f) _ (node_part b) (node_count b) input_used)

  pub read_sound : Sound (bounds f) N
  read_sound = record {
    boxes_within = rw counts.0 fine.few_nodes;
    wires_within = rw counts.1 fine.few_edges;
    policies_within = rw counts.2 fine.few_policies;
    ids_within = ids_within;
    boxes_rise = boxes_rise;
    some_own = some_own;
    wires_rise = wires_rise;
    wires_joined = wires_joined;
    inputs_used = inputs_used;
  }

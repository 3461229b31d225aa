-- What a network's bytes say of its boxes and wires, by their places: the tests of the record are the tests of the network read from it.
--     demand_row                     a box's demand
--     promise_none, promise_some     a box's promise, by its flag
--     own_row, input_row             the box in a row
--     read_ids, read_keys            a box's id and a wire's key
--     owns_read, has_box_read        a box with an id, and an own one
--     own_read, sends_read           an own box at all; a wire out of a box
--     Edge, edge_parts, parts_edge   an edge's test, taken apart and put together
use mathlib.Core.Path.{◌≡◌, refl, sym, ap, ◌∙◌}
use mathlib.Core.Bool.{Bool, true, false, cond, not, ◌&&◌}
use mathlib.Core.List.{List}
use mathlib.Core.Option.{none, some}
use Prim.Native.Nat.{ℕ, ◌+◌, ◌≤◌, ◌<◌}
use native.Mathlib.Omega.{arith}
use lib.Dec.{eqb, leb, ltb}
use borrow.Author.Tests.{leb-true, ltb-true, not-true, not-false, le-leb, lt-ltb}
use lib.ListN.{get_or}
use Rattle.lists.specs.All.{any}
use Rattle.lists.specs.First.{every}
use Rattle.lists.proofs.First.{every_ext}
use Rattle.lists.specs.Rising.{least}
use Rattle.lists.proofs.Rising.{place_ext}
use Rattle.lists.specs.Sorted.{find}
use Rattle.lists.specs.Stride.{at}
use Rattle.lists.proofs.Test.{and_l, and_r, cond_ap, cond_same, cond_test}
use Rattle.lists.proofs.Table.{keys, row_at, find_rows, any_rows}
use Rattle.numbers.specs.BigEndian.{u16_at}
use Rattle.routes.specs.Form.{route_at}
use Rattle.routes.specs.declared.Demand.{Demand}
use Rattle.routes.specs.declared.Route.{Route}
use Rattle.networks.specs.Network.{Box, own, input, Wire, wire_key, box_id, is_box, is_own_box, has_box, owns}
use Rattle.networks.specs.Sound.{sends}
use Rattle.layout.specs.Form.{node_width}
use Rattle.layout.specs.Layout.{node_count, edge_count, policy_count, node_part, edge_part, node_offset, edge_offset}
use Rattle.nodes.specs.Node.{node_id, row_of, ownless, is_own, promising, demand_of}
use Rattle.records.specs.Edge.{edge_to, edge_from, edge_policy, edge_key, boxed, owned, ends_formed, edge_formed, edge_ok}
use Rattle.layout.specs.declared.Form.{Form}
use Rattle.reading.specs.Parts.{box_at, promise_at, demand_at, wire_at}
use Rattle.reading.specs.Rows.{own_in, input_in}
use Rattle.reading.specs.Whole.{HouseNetwork, read_network}

-- a box's id and kind are the bytes' own
pub box_id_at : (w : ℕ) (b : List ℕ) (o : ℕ) → box_id (box_at w b o) ≡ u16_at b o
unfolding box_at
box_id_at w b o = cond_ap box_id (eqb (get_or b (o + 2) 0) 0) _ _ ∙ cond_same (eqb (get_or b (o + 2) 0) 0) (u16_at b o)

pub box_own_at : (w : ℕ) (b : List ℕ) (o : ℕ) → is_own_box (some (box_at w b o)) ≡ eqb (get_or b (o + 2) 0) 0
unfolding box_at
box_own_at w b o = cond_ap (λ (v : Box Route Demand). is_own_box (some v)) (eqb (get_or b (o + 2) 0) 0) _ _ ∙ cond_test (eqb (get_or b (o + 2) 0) 0)

-- the demand of a box by its own offset
pub demand_row : (w : ℕ) (b : List ℕ) (o : ℕ) → demand_of w b o ≡ demand_at b (o + 4 + w + w)
unfolding demand_of demand_at
demand_row w b o =
    let five : o + 5 + w + w ≡ o + 4 + w + w + 1 = omega arith in
    let seven : o + 7 + w + w ≡ o + 4 + w + w + 3 = omega arith in
    rw (five, seven)

-- the promise of a box by its flag
module _ (w : ℕ) (b : List ℕ) (o : ℕ) (t : Bool) (e : t ≡ promising w b o) where
  pub promise_none : t ≡ false → promise_at w b (o + 3 + w) ≡ none
  unfolding promising promise_at
  promise_none y = let z : not (eqb (get_or b (o + 3 + w) 0) 0) ≡ false = sym e ∙ y in rw (not-false (eqb (get_or b (o + 3 + w) 0) 0) z)

  pub promise_some : t ≡ true → promise_at w b (o + 3 + w) ≡ some (route_at w b (o + 4 + w))
  unfolding promising promise_at
  promise_some y =
      let z : not (eqb (get_or b (o + 3 + w) 0) 0) ≡ true = sym e ∙ y in
      let four : o + 3 + w + 1 ≡ o + 4 + w = omega arith in
      rw (not-true (eqb (get_or b (o + 3 + w) 0) 0) z, four)

module _ (f : Form) (b : List ℕ) where
  abbrev N : HouseNetwork
  N = read_network f b

  -- the box in a row, by its kind
  module _ (i : ℕ) where
    pub own_row : is_own f b i ≡ true → box_at f.route b (node_offset f b i) ≡ own (own_in f b i)
    unfolding box_at is_own node_id
    own_row h = rw h

    pub input_row : is_own f b i ≡ false → box_at f.route b (node_offset f b i) ≡ input (input_in f b i)
    unfolding box_at is_own node_id
    input_row h = rw h

  -- the i-th box's id, and the j-th wire's key
  pub read_ids : (i : ℕ) → keys box_id (box_at f.route b) (node_width f) (node_part b) i ≡ node_id f b i
  unfolding node_id node_offset
  read_ids i = box_id_at f.route b (at (node_part b) (node_width f) i)

  pub read_keys : (j : ℕ) → keys wire_key (wire_at b) 5 (edge_part f b) j ≡ edge_key f b j
  unfolding wire_at edge_key edge_to edge_from edge_offset
  read_keys j = refl

  -- the box with an id is the one in its row
  pub read_find : (x : ℕ) → find box_id x N.boxes ≡ row_at box_id (box_at f.route b) (node_width f) (node_part b) (node_count b) (row_of f b x)
  unfolding read_network row_of
  read_find x =
      find_rows box_id (box_at f.route b) (node_width f) (node_part b) (node_count b) x
      ∙ ap (row_at box_id (box_at f.route b) (node_width f) (node_part b) (node_count b)) (place_ext _ _ x (node_count b) (λ k l. read_ids k))

  pub has_box_read : (x : ℕ) → has_box N x ≡ boxed f b x
  unfolding boxed
  has_box_read x = ap is_box (read_find x) ∙ cond_ap is_box (ltb (row_of f b x) (node_count b)) _ none ∙ cond_test (ltb (row_of f b x) (node_count b))

  pub owns_read : (x : ℕ) → owns N x ≡ owned f b x
  unfolding owned boxed is_own node_offset
  owns_read x = ap is_own_box (read_find x) ∙ go (ltb (row_of f b x) (node_count b))
    where
      go : (t : Bool) → is_own_box (cond t (some (box_at f.route b (at (node_part b) (node_width f) (row_of f b x)))) none) ≡ t && is_own f b (row_of f b x)
      go true = box_own_at f.route b (at (node_part b) (node_width f) (row_of f b x))
      go false = refl

  -- there is an own box
  pub own_read : any (λ (v : Box Route Demand). is_own_box (some v)) N.boxes ≡ not (ownless f b)
  unfolding read_network ownless is_own node_offset
  own_read =
      any_rows (λ (v : Box Route Demand). is_own_box (some v)) (box_at f.route b) (node_width f) (node_part b) (node_count b)
      ∙ ap not (every_ext _ _ (node_count b) (λ k l. ap not (box_own_at f.route b (at (node_part b) (node_width f) k))))

  -- a wire leads out of the box with an id
  pub sends_read : (x : ℕ) → sends N x ≡ not (every (λ j. not (eqb (edge_from f b j) x)) (edge_count b))
  unfolding read_network wire_at edge_from edge_offset
  sends_read x = any_rows (λ (e : Wire). eqb e.from x) (wire_at b) 5 (edge_part f b) (edge_count b)

-- what an edge's test says
pub record Edge (f : Form) (b : List ℕ) (j : ℕ) : Type 0 where
  pub rises : least (edge_key f b) j ≤ edge_key f b j
  pub to_own : owned f b (edge_to f b j) ≡ true
  pub from_there : boxed f b (edge_from f b j) ≡ true
  pub differ : eqb (edge_to f b j) (edge_from f b j) ≡ false
  pub policy_there : edge_policy f b j < policy_count b

pub edge_parts : (f : Form) (b : List ℕ) (j : ℕ) → edge_ok f b j ≡ true → Edge f b j
unfolding edge_ok edge_formed ends_formed edge_to edge_from edge_policy
edge_parts f b j h =
    let r = leb (least (edge_key f b) j) (edge_key f b j) in
    let t = owned f b (edge_to f b j) in
    let s = boxed f b (edge_from f b j) in
    let d = not (eqb (edge_to f b j) (edge_from f b j)) in
    let p = ltb (edge_policy f b j) (policy_count b) in
    let formed = and_r r ((t && (s && d)) && p) h in
    let ends = and_l (t && (s && d)) p formed in
    let others = and_r t (s && d) ends in
    record {
      rises = leb-true _ _ (and_l r ((t && (s && d)) && p) h);
      to_own = and_l t (s && d) ends;
      from_there = and_l s d others;
      differ = not-true _ (and_r s d others);
      policy_there = ltb-true _ _ (and_r (t && (s && d)) p formed);
    }

pub parts_edge : (f : Form) (b : List ℕ) (j : ℕ) → Edge f b j → edge_ok f b j ≡ true
unfolding edge_ok edge_formed ends_formed edge_to edge_from edge_policy
parts_edge f b j e =
    rw (le-leb (least (edge_key f b) j) (edge_key f b j) e.rises, e.to_own, e.from_there, e.differ, lt-ltb (edge_policy f b j) (policy_count b) e.policy_there)

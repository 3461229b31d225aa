-- A node's fields by their offset, and when a node is well formed (document 01, 'Records'). w is the width of a route.
use Rattle.std.specs.Prelude.{ℕ, ◌+◌, Bool, true, cond, not, ◌&&◌, ◌||◌, List, eqb, leb, get_or}
use Rattle.lists.specs.First.{every}
use Rattle.lists.specs.Rising.{least, place}
use Rattle.numbers.specs.BigEndian.{u16_at}
use Rattle.numbers.specs.Zeros.{zeros}
use Rattle.routes.specs.Form.{route_formed}
use Rattle.routes.specs.declared.Demand.{Demand}
use Rattle.routes.specs.declared.Demand.TheVariants.{Nothing, Hold, HoldNone}
use Rattle.layout.specs.Layout.{node_count, node_offset}
use Rattle.layout.specs.declared.Form.{Form}

-- Where the fields of the node at o stand: behind the id, of two bytes, the kind and the route.
abbrev pub kind_field : ℕ → ℕ
kind_field o = o + 2

abbrev pub route_field : ℕ → ℕ
route_field o = o + 3

-- and behind the route the promise's flag, the promised route, the demand, its ceiling and its tags
module _ (w o : ℕ) where
  abbrev pub flag_field : ℕ
  flag_field = o + 3 + w

  abbrev pub promise_field : ℕ
  promise_field = o + 4 + w

  abbrev pub demand_field : ℕ
  demand_field = o + 4 + w + w

  abbrev pub ceiling_field : ℕ
  ceiling_field = o + 5 + w + w

  abbrev pub tags_field : ℕ
  tags_field = o + 7 + w + w

module _ (w : ℕ) (b : List ℕ) (o : ℕ) where
  abbrev pub kind_at : ℕ
  kind_at = get_or b (kind_field o) 0

  abbrev pub promise_flag_at : ℕ
  promise_flag_at = get_or b (flag_field w o) 0

  abbrev pub demand_byte_at : ℕ
  demand_byte_at = get_or b (demand_field w o) 0

  -- kind 0 is an own node; kind 1 an input, which has no promise and demand 0
  unfoldable pub kind_formed : Bool
  kind_formed = cond (eqb kind_at 0) true (eqb kind_at 1 && (eqb promise_flag_at 0 && eqb demand_byte_at 0))

  -- with flag 0 the promised route is zeros; with flag 1 it is a route, and may be none
  unfoldable pub promise_formed : Bool
  promise_formed = cond (eqb promise_flag_at 0) (zeros b (promise_field w o) w) (eqb promise_flag_at 1 && route_formed w b (promise_field w o))

  -- for demands 0 and 2 ceiling and tags are zero
  unfoldable pub demand_formed : Bool
  demand_formed = cond (eqb demand_byte_at 1) true ((eqb demand_byte_at 0 || eqb demand_byte_at 2) && zeros b (ceiling_field w o) 4)

  unfoldable pub node_formed : Bool
  node_formed = kind_formed && (route_formed w b (route_field o) && (promise_formed && demand_formed))

  -- the node promises a route, or to hold none
  unfoldable pub promising : Bool
  promising = not (eqb promise_flag_at 0)

  -- what is asked of the route at the node
  unfoldable pub demand_of : Demand
  demand_of = cond (eqb demand_byte_at 0) Nothing (cond (eqb demand_byte_at 1) (Hold (u16_at b (ceiling_field w o)) (u16_at b (tags_field w o))) HoldNone)

module _ (f : Form) (b : List ℕ) where
  unfoldable pub node_id : ℕ → ℕ
  node_id i = u16_at b (node_offset f b i)

  -- the i-th node is well formed, and its id is above the one before
  unfoldable pub node_ok : ℕ → Bool
  node_ok i = leb (least node_id i) (node_id i) && node_formed f.route b (node_offset f b i)

  unfoldable pub is_own : ℕ → Bool
  is_own i = eqb (get_or b (kind_field (node_offset f b i)) 0) 0

  -- no node is an own one
  unfoldable pub ownless : Bool
  ownless = every (λ i. not (is_own i)) (node_count b)

  -- the row of the node with an id, or the number of nodes where no node has it
  unfoldable pub row_of : ℕ → ℕ
  row_of id = place node_id id (node_count b)

-- Open networks (document 000, definition IV.1): own boxes, inputs, wires and policies, over any types of routes, policies and demands.
--     Own, Input, Box, Wire, Network     the parts; NetworkOver, the networks over an algebra
--     wire_key                            the order in which wires stand
--     own_boxes, inputs                   the two kinds of box, by rising id
--     box, has_box, owns                  the box with an id
--     wires_into                          the wires into a box
use Rattle.std.specs.Prelude.{Bool, true, false, ℕ, ◌+◌, ◌*◌, eqb}
use Rattle.std.proofs.Math.Option.{Option, none, some}
use mathlib.Core.List.{List, filter_map}
use Rattle.lists.specs.Filter.{filter}
use Rattle.lists.specs.Sorted.{find}
use Rattle.networks.specs.Algebra.{Algebra}

-- A box of ours. A promise of no route is a promise; `none` is no promise.
pub record Own (R D : Type 0) : Type 0 where
  pub id : ℕ
  pub initial : R
  pub promise : Option R
  pub demand : D

-- A box of others, with the route that it is assumed to hold.
pub record Input (R : Type 0) : Type 0 where
  pub id : ℕ
  pub assumed : R

pub data Box (R D : Type 0) : Type 0 where
  own : Own R D → Box R D
  input : Input R → Box R D

-- A wire by the ids of its two ends, with its policy's place in the network's table.
pub record Wire : Type 0 where
  pub to : ℕ
  pub from : ℕ
  pub policy : ℕ

pub record Network (R P D : Type 0) : Type 0 where
  pub policies : List P
  pub boxes : List (Box R D)
  pub wires : List Wire

abbrev pub NetworkOver : Algebra → Type 0
NetworkOver 𝓐 = Network 𝓐.Route 𝓐.Policy 𝓐.Demand

-- Ids are 16-bit numbers.
abbrev pub ids : ℕ
ids = 65536

-- Wires stand by their to end, and at one to end by their from end.
abbrev pub wire_key : Wire → ℕ
wire_key w = w.to * ids + w.from

module _ {R D : Type 0} where
  abbrev pub box_id : Box R D → ℕ
  box_id (own b) = b.id
  box_id (input a) = a.id

  abbrev pub as_own : Box R D → Option (Own R D)
  as_own (own b) = some b
  as_own (input a) = none

  abbrev pub as_input : Box R D → Option (Input R)
  as_input (own b) = none
  as_input (input a) = some a

  -- whether a box was found, and whether it is an own one
  abbrev pub is_box : Option (Box R D) → Bool
  is_box none = false
  is_box (some v) = true

  abbrev pub is_own_box : Option (Box R D) → Bool
  is_own_box none = false
  is_own_box (some (own b)) = true
  is_own_box (some (input a)) = false

module _ {R P D : Type 0} (N : Network R P D) where
  abbrev pub own_boxes : List (Own R D)
  own_boxes = filter_map as_own N.boxes

  abbrev pub inputs : List (Input R)
  inputs = filter_map as_input N.boxes

  -- the box with an id, if there is one
  abbrev pub box : ℕ → Option (Box R D)
  box i = find box_id i N.boxes

  abbrev pub has_box : ℕ → Bool
  has_box i = is_box (box i)

  abbrev pub owns : ℕ → Bool
  owns i = is_own_box (box i)

  abbrev pub wires_into : ℕ → List Wire
  wires_into i = filter (λ (w : Wire). eqb w.to i) N.wires

-- What joining two networks gives and what it refuses, as facts. proofs/Joining.antt and proofs/JoinRefusals.antt show them.
--     Joint                                  F is the joint network of N and M
--     LowestId, NoId                         the lowest id of which something holds; there is none
--     OwnedTwice, Matches, Unmatched, ..     a box that both own; an assumption with its equal and without
--     JoinRefused                            the refusals 21 to 24
use Rattle.std.specs.Prelude.{◌≡◌, Bool, true, false, not, ◌&&◌, ◌||◌, ◌↔◌, ◌⊎◌, ℕ, ◌+◌, ◌≤◌, ◌<◌, length}
use Rattle.std.proofs.Math.Option.{Option, none, some}
use Rattle.lists.specs.All.{any}
use Rattle.lists.specs.Filter.{filter}
use Rattle.lists.specs.Union.{either}
use Rattle.networks.specs.Algebra.{Algebra}
use Rattle.networks.specs.Network.{Own, Input, Box, own, input, Wire, Network, NetworkOver, box_id, own_boxes, box, has_box, owns, wires_into}
use Rattle.networks.specs.Sound.{Bounds}
use Rattle.networks.specs.Paper.{V_in}
use Rattle.networks.specs.Join.{meeting, joining}

pub record Joint {R P D : Type 0} (N M F : Network R P D) : Type 0 where
  -- the box with an id; it is owned where either owns it, and an input where either has it as one and neither owns it
  pub boxes : (i : ℕ) → box F i ≡ either meeting (box N i) (box M i)
  pub owned : (i : ℕ) → owns F i ≡ owns N i || owns M i
  pub entering : (i : ℕ) → V_in F i ≡ (V_in N i || V_in M i) && not (owns N i || owns M i)
  -- own boxes are as their owner has them, and inputs are assumed what either assumes
  pub own_boxes_lem : (i : ℕ) (b : Own R D) → (box F i ≡ some (own b)) ↔ ((box N i ≡ some (own b)) ⊎ (box M i ≡ some (own b)))
  pub inputs : (i : ℕ) (a : Input R)
      → (box F i ≡ some (input a)) ↔ (((box N i ≡ some (input a)) ⊎ (box M i ≡ some (input a))) × (owns N i ≡ false) × (owns M i ≡ false))
  -- the wires of both and no others; those into an own box, and their policies, as its owner has them
  pub wires : (p : Wire → Bool) → any p F.wires ≡ any p N.wires || any p M.wires
  pub first_into : (i : ℕ) → owns N i ≡ true → wires_into F i ≡ wires_into N i
  pub second_into : (i : ℕ) → owns M i ≡ true → wires_into F i ≡ wires_into M i
  pub policies : (F.policies ≡ N.policies) × (F.policies ≡ M.policies)
  -- how many there are: a box that both have counts once
  pub wire_count : length F.wires ≡ length N.wires + length M.wires
  pub own_count : length (own_boxes F) ≡ length (own_boxes N) + length (own_boxes M)
  pub box_count : length F.boxes + length (filter (λ (v : Box R D). has_box M (box_id v)) N.boxes) ≡ length N.boxes + length M.boxes

abbrev pub LowestId : (ℕ → Type 0) → ℕ → Type 0
LowestId Q i = Q i × ((j : ℕ) → j < i → Q j → ⊥)

abbrev pub NoId : (ℕ → Type 0) → Type 0
NoId Q = (j : ℕ) → Q j → ⊥

module _ (𝓐 : Algebra) where
  open 𝓐 use {Route, Demand}

  abbrev pub OwnedTwice : NetworkOver 𝓐 → NetworkOver 𝓐 → ℕ → Type 0
  OwnedTwice N M i = (owns N i ≡ true) × (owns M i ≡ true)

  -- What is assumed of a box, by the box with its id in the other network: its owner promises just this, or the other assumes the same.
  abbrev pub Matches : Route → Option (Box Route Demand) → Type 0
  Matches r none = Unit {0}
  Matches r (some (own b)) = b.promise ≡ some r
  Matches r (some (input a)) = a.assumed ≡ r

  -- N assumes of the box what M does not match: its owner in M promises another route or nothing, or M assumes another route.
  abbrev pub Unmatched : NetworkOver 𝓐 → NetworkOver 𝓐 → ℕ → Type 0
  Unmatched N M i = (a : Input Route) × (box N i ≡ some (input a)) × (Matches a.assumed (box M i) → ⊥)

  abbrev pub EitherUnmatched : NetworkOver 𝓐 → NetworkOver 𝓐 → ℕ → Type 0
  EitherUnmatched N M i = Unmatched N M i ⊎ Unmatched M N i

  -- by number and place, each where none before it is the case
  pub data JoinRefused (B : Bounds) (N M : NetworkOver 𝓐) : ℕ → ℕ → Type 0 where
    owned_twice : (i : ℕ) → LowestId (OwnedTwice N M) i → JoinRefused B N M 21 i
    assumption : (i : ℕ) → NoId (OwnedTwice N M) → LowestId (EitherUnmatched N M) i → JoinRefused B N M 22 i
    tables : NoId (OwnedTwice N M) → NoId (EitherUnmatched N M) → (N.policies ≡ M.policies → ⊥) → JoinRefused B N M 23 0
    too_many_boxes : NoId (OwnedTwice N M) → NoId (EitherUnmatched N M) → N.policies ≡ M.policies
        → B.boxes < length (joining N M).boxes → JoinRefused B N M 24 (length (joining N M).boxes)
    too_many_wires : NoId (OwnedTwice N M) → NoId (EitherUnmatched N M) → N.policies ≡ M.policies
        → length (joining N M).boxes ≤ B.boxes → B.wires < length (joining N M).wires → JoinRefused B N M 24 (length (joining N M).wires)

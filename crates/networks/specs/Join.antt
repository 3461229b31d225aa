-- Joining two networks into one (document 02, K3).
--     meeting, joining             of two boxes with one id the one that stays; the joint network
--     matched, unmatched           what is asked of an assumption; the lowest id of one that finds no equal
--     join_table, join, Fitting     the answer; what two networks that are joined have
use Rattle.std.specs.Prelude.{◌≡◌, Bool, true, false, cond, not, List, [], ◌∷◌, ℕ, ◌≤◌, leb, ltb, length}
use Rattle.std.proofs.Math.Option.{Option, none, some, map}
use Rattle.lists.specs.All.{All, all_alike}
use Rattle.lists.specs.Answer.{Answer, given, row}
use Rattle.lists.specs.Filter.{first_that}
use Rattle.lists.specs.Test.{first_applying}
use Rattle.lists.specs.Union.{either, union}
use Rattle.networks.specs.Algebra.{Algebra, Telling}
use Rattle.networks.specs.Network.{Own, Input, Box, own, input, Wire, Network, wire_key, box_id, own_boxes, inputs, box, owns}
use Rattle.networks.specs.Sound.{Bounds}
use Rattle.networks.specs.Lowest.{lowest}

-- Of two boxes with one id the own one stays: an input that the other network owns disappears. Two inputs with one id are one.
abbrev pub meeting : {R D : Type 0} → Box R D → Box R D → Box R D
meeting (own b) v = own b
meeting (input a) (own b) = own b
meeting (input a) (input c) = input a

-- No wire is in both, since no box is owned by both.
abbrev pub first_wire : Wire → Wire → Wire
first_wire w v = w

unfoldable pub joining : {R P D : Type 0} → Network R P D → Network R P D → Network R P D
joining N M = record {
  policies = N.policies;
  boxes = union box_id meeting N.boxes M.boxes;
  wires = union wire_key first_wire N.wires M.wires;
}

-- the lower of two places, where there are two
abbrev pub lower_of : Option ℕ → Option ℕ → Option ℕ
lower_of = either (λ (p q : ℕ). cond (leb p q) p q)

-- a count that is over its bound
abbrev pub over_bound : ℕ → ℕ → Option ℕ
over_bound most count = cond (ltb most count) (some count) none

module _ (𝓐 : Algebra) where
  open 𝓐 use {Route, Policy, Demand, same}

  abbrev pub promises : Option Route → Route → Bool
  promises none r = false
  promises (some q) r = same q r

  -- What is assumed of a box, by the box with its id in the other network: its owner promises just this, or the other assumes the same.
  abbrev pub matched : Route → Option (Box Route Demand) → Bool
  matched r none = true
  matched r (some (own b)) = promises b.promise r
  matched r (some (input a)) = same a.assumed r

  -- the lowest id of which N assumes what M does not match
  abbrev pub unmatched : Network Route Policy Demand → Network Route Policy Demand → Option ℕ
  unmatched N M = map (λ (a : Input Route). a.id) (first_that (λ (a : Input Route). not (matched a.assumed (box M a.id))) (inputs N))

  module _ (telling : Telling 𝓐) (B : Bounds) where
    open telling use {alike}

    -- what is refused: a box owned by both; an assumption without its equal; policies that differ; too many boxes, too many wires
    abbrev pub join_table : Network Route Policy Demand → Network Route Policy Demand → {A : Type 0} → List (Bool × Answer A)
    join_table N M =
        row 21 (lowest (λ (b : Own Route Demand). owns M b.id) (own_boxes N)) ∷
        row 22 (lower_of (unmatched N M) (unmatched M N)) ∷
        row 23 (cond (all_alike alike N.policies M.policies) none (some 0)) ∷
        row 24 (over_bound B.boxes (length (joining N M).boxes)) ∷
        row 24 (over_bound B.wires (length (joining N M).wires)) ∷
        []

    unfoldable pub join : Network Route Policy Demand → Network Route Policy Demand → Answer (Network Route Policy Demand)
    join N M = first_applying (join_table N M) (given (joining N M))

  -- the same as facts: none of 21 to 24 applies
  pub record Fitting (B : Bounds) (N M : Network Route Policy Demand) : Type 0 where
    pub own_once : (i : ℕ) → owns N i ≡ true → owns M i ≡ false
    pub first_matched : All (λ (a : Input Route). matched a.assumed (box M a.id) ≡ true) (inputs N)
    pub second_matched : All (λ (a : Input Route). matched a.assumed (box N a.id) ≡ true) (inputs M)
    pub one_table : N.policies ≡ M.policies
    pub boxes_within : length (joining N M).boxes ≤ B.boxes
    pub wires_within : length (joining N M).wires ≤ B.wires

-- Soundness of a network: what is left of document 01's refusals 3 and 7 to 10 where there are no bytes.
--     Bounds             the greatest numbers of boxes, wires and policies
--     Joined, Sound      a wire fits the network; the network is sound
--     sound              the same as a test; proofs/SoundTest.antt shows that both say the same
--     NoMore             a network has no more boxes, wires and policies than another
use Rattle.std.specs.Prelude.{◌≡◌, Bool, true, not, List, [], ◌∷◌, ℕ, ◌≤◌, ◌<◌, eqb, leb, ltb, length}
use Rattle.lists.specs.All.{All, all, any}
use Rattle.lists.specs.Sorted.{Rises, rises}
use Rattle.networks.specs.Network.{Box, Input, Wire, Network, ids, wire_key, box_id, own_boxes, inputs, has_box, owns}

pub record Bounds : Type 0 where
  pub boxes : ℕ
  pub wires : ℕ
  pub policies : ℕ

-- Both ends exist and differ, the to end is an own box, and the policy exists.
pub record Joined {R P D : Type 0} (N : Network R P D) (w : Wire) : Type 0 where
  pub to_own : owns N w.to ≡ true
  pub from_there : has_box N w.from ≡ true
  pub differ : w.to ≡ w.from → ⊥
  pub policy_there : w.policy < length N.policies

-- a wire leads out of the box with this id
abbrev pub sends : {R P D : Type 0} → Network R P D → ℕ → Bool
sends N i = any (λ (w : Wire). eqb w.from i) N.wires

pub record Sound {R P D : Type 0} (B : Bounds) (N : Network R P D) : Type 0 where
  -- no count is over its bound (3)
  pub boxes_within : length N.boxes ≤ B.boxes
  pub wires_within : length N.wires ≤ B.wires
  pub policies_within : length N.policies ≤ B.policies
  -- ids are 16-bit numbers and rise strictly (7)
  pub ids_within : All (λ (v : Box R D). box_id v < ids) N.boxes
  pub boxes_rise : Rises box_id 0 N.boxes
  -- there is an own box (8)
  pub some_own : 0 < length (own_boxes N)
  -- wires rise strictly, and each fits (9)
  pub wires_rise : Rises wire_key 0 N.wires
  pub wires_joined : All (Joined N) N.wires
  -- a wire leads out of every input (10)
  pub inputs_used : All (λ (a : Input R). sends N a.id ≡ true) (inputs N)

-- all tests of a list are true
abbrev pub hold : List Bool → Bool
hold tests = all (λ (t : Bool). t) tests

module _ {R P D : Type 0} where
  abbrev pub joined_tests : Network R P D → Wire → List Bool
  joined_tests N w =
      owns N w.to
      ∷ has_box N w.from
      ∷ not (eqb w.to w.from)
      ∷ ltb w.policy (length N.policies)
      ∷ []

  abbrev pub sound_tests : Bounds → Network R P D → List Bool
  sound_tests B N =
      leb (length N.boxes) B.boxes
      ∷ leb (length N.wires) B.wires
      ∷ leb (length N.policies) B.policies
      ∷ all (λ (v : Box R D). ltb (box_id v) ids) N.boxes
      ∷ rises box_id 0 N.boxes
      ∷ ltb 0 (length (own_boxes N))
      ∷ rises wire_key 0 N.wires
      ∷ all (λ (w : Wire). hold (joined_tests N w)) N.wires
      ∷ all (λ (a : Input R). sends N a.id) (inputs N)
      ∷ []

  unfoldable pub sound : Bounds → Network R P D → Bool
  sound B N = hold (sound_tests B N)

pub record NoMore {R P D : Type 0} (F N : Network R P D) : Type 0 where
  pub boxes : length F.boxes ≤ length N.boxes
  pub wires : length F.wires ≤ length N.wires
  pub policies : length F.policies ≤ length N.policies

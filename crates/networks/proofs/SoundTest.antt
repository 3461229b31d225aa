-- Soundness as a fact and as a test say the same.
use mathlib.Core.Path.{◌≡◌, ap}
use mathlib.Core.Bool.{Bool, true, not}
use mathlib.Core.Logic.{◌↔◌}
use lib.Dec.{eqb, ltb}
use lib.ListN.{length}
use borrow.Author.Tests.{leb-true, le-leb, ltb-true, lt-ltb, eqb-false, ne_eqb, not-true}
use Rattle.lists.proofs.All.{all_map, all_true, true_all}
use Rattle.lists.proofs.Sorted.{rises_true, true_rises}
use Rattle.networks.specs.Network.{Box, Input, Wire, Network, ids, wire_key, box_id, own_boxes, inputs}
use Rattle.networks.specs.Sound.{Bounds, Joined, Sound, sends, hold, joined_tests, sound_tests, sound}

module _ {R P D : Type 0} (N : Network R P D) where
  pub joined_test : (w : Wire) → (hold (joined_tests N w) ≡ true) ↔ Joined N w
  joined_test w = (
    λ e.
        let h = all_true (λ (t : Bool). t) (joined_tests N w) e in
        record {
          to_own = h.0;
          from_there = h.1.0;
          differ = eqb-false w.to w.from (not-true (eqb w.to w.from) h.1.1.0);
          policy_there = ltb-true w.policy (length N.policies) h.1.1.1.0;
        },
    λ h. true_all (λ (t : Bool). t) (joined_tests N w) (
      h.to_own,
      (
        h.from_there,
        (
          ap not (ne_eqb w.to w.from h.differ),
          (lt-ltb w.policy (length N.policies) h.policy_there, tt),
        ),
      ),
    ),
  )

  module _ (B : Bounds) where
    true_sound : sound B N ≡ true → Sound B N
    unfolding sound
    true_sound e =
        let counts = all_true (λ (t : Bool). t) (sound_tests B N) e in
        let boxes = counts.1.1.1 in
        let wires = boxes.1.1.1 in
        record {
          boxes_within = leb-true (length N.boxes) B.boxes counts.0;
          wires_within = leb-true (length N.wires) B.wires counts.1.0;
          policies_within = leb-true (length N.policies) B.policies counts.1.1.0;
          ids_within = all_map N.boxes (λ v t. ltb-true (box_id v) ids t) (all_true (λ (v : Box R D). ltb (box_id v) ids) N.boxes boxes.0);
          boxes_rise = rises_true box_id 0 N.boxes boxes.1.0;
          some_own = ltb-true 0 (length (own_boxes N)) boxes.1.1.0;
          wires_rise = rises_true wire_key 0 N.wires wires.0;
          wires_joined = all_map N.wires (λ w t. (joined_test w).0 t) (all_true (λ (w : Wire). hold (joined_tests N w)) N.wires wires.1.0);
          inputs_used = all_true (λ (a : Input R). sends N a.id) (inputs N) wires.1.1.0;
        }

    sound_true : Sound B N → sound B N ≡ true
    unfolding sound
    sound_true h = true_all (λ (t : Bool). t) (sound_tests B N) (
      le-leb (length N.boxes) B.boxes h.boxes_within,
      (
        le-leb (length N.wires) B.wires h.wires_within,
        (
          le-leb (length N.policies) B.policies h.policies_within,
          (
            true_all (λ (v : Box R D). ltb (box_id v) ids) N.boxes (all_map N.boxes (λ v l. lt-ltb (box_id v) ids l) h.ids_within),
            (
              true_rises box_id 0 N.boxes h.boxes_rise,
              (
                lt-ltb 0 (length (own_boxes N)) h.some_own,
                (
                  true_rises wire_key 0 N.wires h.wires_rise,
                  (
                    true_all (λ (w : Wire). hold (joined_tests N w)) N.wires (all_map N.wires (λ w j. (joined_test w).1 j) h.wires_joined),
                    (
                      true_all (λ (a : Input R). sends N a.id) (inputs N) h.inputs_used,
                      tt,
                    ),
                  ),
                ),
              ),
            ),
          ),
        ),
      ),
    )

    pub sound_test : (sound B N ≡ true) ↔ Sound B N
    sound_test = (true_sound, sound_true)

-- A fragment of a sound network, by any set κ of numbers, is sound where the sheet has every entry and some own box is in it.
--     fragment_less      it has no more boxes, wires and policies
--     fragment_sound     it is sound
use mathlib.Core.Path.{◌≡◌, ◌∙◌}
use mathlib.Core.Bool.{Bool, true}
use Prim.Native.Nat.{ℕ, ◌<◌}
use native.Mathlib.Omega.{arith}
use lib.ListN.{length, length-map}
use Rattle.lists.specs.All.{All, any}
use Rattle.lists.proofs.All.{all_map, all_of}
use Rattle.lists.specs.Filter.{filter}
use Rattle.lists.proofs.Filter.{filter_some, length_filter, length_filter_map, all_filter_map}
use Rattle.lists.proofs.Sorted.{rises_filter}
use Rattle.networks.specs.Network.{Own, Input, Box, Wire, Network, ids, wire_key, box_id, own_boxes, inputs}
use Rattle.networks.specs.Sound.{Bounds, Sound, NoMore, sends}
use Rattle.networks.specs.Sheets.{Sheet, number, note}
use Rattle.networks.specs.Lowest.{Entered}
use Rattle.networks.specs.Cut.{promising_own, piece, fragment_of}
use Rattle.networks.proofs.Laws.Pieces.{piece_id, own_boxes_fragment, inputs_kept, sends_fragment}
use Rattle.networks.proofs.Laws.Formed.{sound_formed, fragment_formed_lem}

module _ {R P D : Type 0} (N : Network R P D) (S : Sheet R) where
  pub fragment_less : (κ : ℕ → Bool) → NoMore (fragment_of N S κ) N
  unfolding fragment_of
  fragment_less κ = record {
    boxes = length_filter_map (piece N S κ) N.boxes;
    wires = length_filter (λ (w : Wire). κ (number S w.to)) N.wires;
    policies = omega arith;
  }

  some_kept : (κ : ℕ → Bool) → any (λ (b : Own R D). κ (number S b.id)) (own_boxes N) ≡ true → 0 < length (own_boxes (fragment_of N S κ))
  some_kept κ t = rw (own_boxes_fragment N S κ, length-map (filter (λ (b : Own R D). κ (number S b.id)) (own_boxes N)) (promising_own N S))
      (filter_some (λ (b : Own R D). κ (number S b.id)) (own_boxes N) t)

  -- an input is kept because it feeds the fragment
  inputs_send : (κ : ℕ → Bool) → All (λ (a : Input R). sends (fragment_of N S κ) a.id ≡ true) (inputs (fragment_of N S κ))
  inputs_send κ = inputs_kept N S κ (λ (a : Input R). sends (fragment_of N S κ) a.id ≡ true)
      (all_of (inputs N) (λ a t. sends_fragment N S κ a.id ∙ t))
      (all_of (own_boxes N) (λ b s t n e. sends_fragment N S κ b.id ∙ t))

  pub fragment_sound : (B : Bounds) (κ : ℕ → Bool) → Sound B N → Entered N (note S)
      → any (λ (b : Own R D). κ (number S b.id)) (own_boxes N) ≡ true → Sound B (fragment_of N S κ)
  unfolding fragment_of
  fragment_sound B κ sound entered some_numbered =
      let less = fragment_less κ in
      let formed = fragment_formed_lem N S (sound_formed B N sound) κ entered in
      record {
        boxes_within = omega (arith, less.boxes, sound.boxes_within);
        wires_within = omega (arith, less.wires, sound.wires_within);
        policies_within = sound.policies_within;
        ids_within = all_filter_map (λ (v : Box R D). box_id v < ids) (piece N S κ) N.boxes
            (all_map N.boxes (λ v l w e. rw (piece_id N S κ v w e) l) sound.ids_within);
        boxes_rise = formed.rise;
        some_own = some_kept κ some_numbered;
        wires_rise = rises_filter wire_key _ 0 N.wires sound.wires_rise;
        wires_joined = formed.joined;
        inputs_used = inputs_send κ;
      }

-- A sound network whose own boxes all have one number.
--     none_leaves      no wire is cut
--     same_network     the fragment is the network
use mathlib.Core.Path.{◌≡◌, sym, ap, ◌∙◌}
use mathlib.Core.Bool.{Bool, true, false, not, ◌&&◌, and-false}
use Prim.Native.Nat.{ℕ}
use lib.Dec.{eqb}
use borrow.Author.Tests.{eq-eqb}
use Rattle.lists.specs.All.{All}
use Rattle.lists.proofs.All.{all_map, false_any}
use Rattle.networks.specs.Network.{Own, Network, is_own_box, own_boxes, owns}
use Rattle.networks.specs.Sound.{Bounds, Sound}
use Rattle.networks.specs.Sheets.{Sheet, number}
use Rattle.networks.specs.Cut.{only, leaves, fragment}
use Rattle.networks.proofs.Laws.Boxes.{own_there, own_fact}
use Rattle.networks.proofs.Laws.Formed.{sound_formed, leaves_own}
use Rattle.networks.proofs.Laws.Promising.{covered, none_promised}

module _ {R P D : Type 0} (B : Bounds) (N : Network R P D) (S : Sheet R) (k : ℕ) (sound : Sound B N)
    (one : All (λ (b : Own R D). number S b.id ≡ k) (own_boxes N)) where
  numbered_k : (i : ℕ) → owns N i ≡ true → number S i ≡ k
  numbered_k i = own_fact N (λ (j : ℕ). number S j ≡ k) i one

  pub none_leaves : All (λ (b : Own R D). leaves N S b.id ≡ false) (own_boxes N)
  none_leaves = all_map (own_boxes N) (λ b e. at b.id (ap is_own_box e)) (own_there N sound.boxes_rise)
    where
      at : (i : ℕ) → owns N i ≡ true → leaves N S i ≡ false
      at i t = leaves_own N S (sound_formed B N sound) i t ∙ false_any _ N.wires
          (all_map N.wires (λ w h. ap (λ (s : Bool). eqb w.from i && not s)
          (eq-eqb _ _ (numbered_k w.to h.to_own ∙ sym (numbered_k i t))) ∙ and-false (eqb w.from i)) sound.wires_joined)

  pub same_network : fragment N S k ≡ N
  same_network =
      covered N S (only k) sound.wires_joined sound.inputs_used (all_map (own_boxes N) (λ b e. eq-eqb (number S b.id) k e) one)
      ∙ none_promised N S none_leaves

-- Networks whose boxes rise and whose wires fit: of soundness, the part that every cut keeps, also one with no own box.
--     Formed, sound_formed          the two facts
--     leaves_own, feeds_leaves      cut wires, where every wire leads to an own box
--     owns_fragment, fragment_formed_lem
use mathlib.Core.Path.{◌≡◌, refl, sym, ap, ◌∙◌}
use mathlib.Core.Bool.{Bool, true, false, cond, not, ◌&&◌, true≢false}
use mathlib.Core.Option.{Option, none, some, map, bind}
use Prim.Native.Nat.{ℕ}
use lib.Dec.{eqb}
use borrow.Author.Tests.{eqb-true, eq-eqb, ne_eqb}
use Rattle.lists.proofs.Test.{and_l, and_r, and_i}
use Rattle.lists.specs.All.{All, any}
use Rattle.lists.proofs.All.{all_map, all_both, any_congr, any_mono, any_here}
use Rattle.lists.proofs.Filter.{all_filter}
use Rattle.lists.specs.Sorted.{Rises}
use Rattle.lists.proofs.Sorted.{find_key}
use Rattle.networks.specs.Network.{Own, Box, own, input, Wire, Network, box_id, is_box, is_own_box, box, has_box, owns}
use Rattle.networks.specs.Sound.{Bounds, Joined, Sound}
use Rattle.networks.specs.Sheets.{Sheet, number, note}
use Rattle.lists.specs.Answer.{is_some}
use Rattle.networks.specs.Lowest.{Entered}
use Rattle.networks.specs.Cut.{leaves, feeds, promising_own, assuming, piece, fragment_of}
use Rattle.networks.proofs.Laws.Boxes.{own_found, owned}
use Rattle.lists.proofs.Answer.{is_some_true}
use Rattle.networks.proofs.Laws.Pieces.{pieces_rise, box_piece}

pub record Formed {R P D : Type 0} (N : Network R P D) : Type 0 where
  pub rise : Rises box_id 0 N.boxes
  pub joined : All (Joined N) N.wires

pub sound_formed : {R P D : Type 0} (B : Bounds) (N : Network R P D) → Sound B N → Formed N
sound_formed B N sound = record { rise = sound.boxes_rise; joined = sound.wires_joined }

module _ {R P D : Type 0} (N : Network R P D) (S : Sheet R) (formed : Formed N) where
  -- a wire out of an own box is cut where the numbers of its ends differ
  pub leaves_own : (i : ℕ) → owns N i ≡ true → leaves N S i ≡ any (λ (w : Wire). eqb w.from i && not (eqb (number S w.to) (number S i)))
      N.wires
  unfolding leaves
  leaves_own i t = any_congr _ _ N.wires (all_map N.wires at formed.joined)
    where
      at : (w : Wire) → Joined N w
          → eqb w.from i && (owns N w.to && (owns N w.from && not (eqb (number S w.to) (number S w.from)))) ≡ eqb
          w.from i && not (eqb (number S w.to) (number S i))
      at w h = rw h.to_own (go (eqb w.from i) refl)
        where
          go : (s : Bool) → eqb w.from i ≡ s → s && (owns N w.from && not (eqb (number S w.to) (number S w.from))) ≡ s && not
              (eqb (number S w.to) (number S i))
          go false q = refl
          go true q = rw (eqb-true w.from i q, t) refl

  -- an own box that feeds a fragment that it is not in is left by a cut wire
  pub feeds_leaves : (κ : ℕ → Bool) (i : ℕ) → owns N i ≡ true → κ (number S i) ≡ false → feeds N S κ i ≡ true → leaves N S i ≡ true
  unfolding feeds
  feeds_leaves κ i t out f = rw (leaves_own i t) (any_mono _ _ N.wires (all_map N.wires at formed.joined) f)
    where
      at : (w : Wire) → Joined N w → eqb w.from i && κ (number S w.to) ≡ true
          → eqb w.from i && not (eqb (number S w.to) (number S i)) ≡ true
      at w h e = and_i _ _ (and_l (eqb w.from i) (κ (number S w.to)) e)
          (ap not (ne_eqb (number S w.to) (number S i) (λ q. true≢false (sym (and_r (eqb w.from i) (κ (number S w.to)) e) ∙ ap κ q ∙ out))))

  module _ (κ : ℕ → Bool) where
    -- a fragment owns the own boxes with its numbers
    is_own_piece : (b : Own R D) → is_own_box (piece N S κ (own b)) ≡ κ (number S b.id)
    is_own_piece b = go (κ (number S b.id)) (feeds N S κ b.id) (note S b.id)
      where
        go : (s t : Bool) (n : Option R) → is_own_box (cond s (some (own (promising_own N S b))) (cond t (map (assuming b) n) none)) ≡ s
        go true t n = refl
        go false true (some n) = refl
        go false true none = refl
        go false false n = refl

    pub owns_fragment : (i : ℕ) → owns N i ≡ true → owns (fragment_of N S κ) i ≡ κ (number S i)
    unfolding bind
    owns_fragment i t =
        let f = owned N i t in
        rw (box_piece N S κ formed.rise i, f.1) (is_own_piece f.0 ∙ ap (λ (j : ℕ). κ (number S j)) f.2)

    module _ (entered : Entered N (note S)) where
      -- the sender of a wire into the fragment is one of its boxes
      is_box_piece : (v : Box R D) → ((b : Own R D) → v ≡ own b → is_some (note S b.id) ≡ true) → feeds N S κ (box_id v) ≡ true
          → is_box (piece N S κ v) ≡ true
      is_box_piece (input a) h f = rw f refl
      is_box_piece (own b) h f = rw f (go (κ (number S b.id)) (is_some_true (note S b.id) (h b refl)))
        where
          go : (s : Bool) → (n : R) × (note S b.id ≡ some n)
              → is_box (cond s (some (own (promising_own N S b))) (map (assuming b) (note S b.id))) ≡ true
          go true n = refl
          go false n = rw n.1 refl

      sender_there : (i : ℕ) → has_box N i ≡ true → feeds N S κ i ≡ true → has_box (fragment_of N S κ) i ≡ true
      unfolding bind
      sender_there i t f = rw (box_piece N S κ formed.rise i) (go (box N i) refl t)
        where
          go : (o : Option (Box R D)) → box N i ≡ o → is_box o ≡ true → is_box (bind o (piece N S κ)) ≡ true
          go none q e = e
          go (some v) q e = is_box_piece v
              (λ b c. own_found N (λ (u : Own R D). is_some (note S u.id) ≡ true) i b entered (q ∙ ap some c))
              (ap (feeds N S κ) (find_key box_id i N.boxes v q) ∙ f)

      pub fragment_formed_lem : Formed (fragment_of N S κ)
      unfolding fragment_of feeds
      fragment_formed_lem = record {
        rise = pieces_rise N S κ formed.rise;
        joined = all_filter _ (λ (w : Wire). κ (number S w.to)) N.wires
            (all_map N.wires at (all_both _ _ N.wires formed.joined (any_here N.wires)));
      }
        where
          at : (w : Wire) → Joined N w × ((test : Wire → Bool) → test w ≡ true → any test N.wires ≡ true) → κ (number S w.to) ≡ true
              → Joined (fragment_of N S κ) w
          at w h t = record {
            to_own = owns_fragment w.to h.0.to_own ∙ t;
            from_there = sender_there w.from h.0.from_there
                (h.1 (λ (x : Wire). eqb x.from w.from && κ (number S x.to)) (and_i _ _ (eq-eqb w.from _ refl) t));
            differ = h.0.differ;
            policy_there = h.0.policy_there;
          }

-- Two sheets that agree on the own boxes of a sound network get the same answer of the cutter from it: the fragment, or number and place of
-- the refusal. To agree on a box is to have the same fragment number and note for it, or none of the two to have an entry.
-- Every wire leads to an own box and only own boxes are joined by cut wires, so that no other entry is read: whatever is asked of the first
-- sheet, box by box and wire by wire, is the same of the second.
use mathlib.Core.Path.{◌≡◌, refl, ap, ap₂}
use mathlib.Core.Bool.{Bool, true, false, cond, not, ◌&&◌}
use mathlib.Core.Option.{Option, some}
use mathlib.Core.List.{List, [], ◌∷◌, filter_map}
use Prim.Native.Nat.{ℕ}
use lib.Dec.{eqb}
use Rattle.lists.specs.All.{All, any}
use Rattle.lists.proofs.All.{all_map, all_of, any_congr}
use Rattle.lists.specs.Filter.{filter}
use Rattle.lists.proofs.Filter.{filter_congr, filter_map_congr, filter_map_all}
use Rattle.lists.specs.Answer.{is_some}
use Rattle.networks.specs.Algebra.{Algebra}
use Rattle.networks.specs.Network.{Own, Box, own, input, Wire, Network, NetworkOver, as_own, own_boxes, owns}
use Rattle.networks.specs.Sound.{Bounds, Joined, Sound}
use Rattle.networks.specs.Sheets.{Sheet, number, note}
use Rattle.networks.specs.Lowest.{lowest, unentered}
use Rattle.networks.specs.Cut.{is_cut, leaves, feeds, piece, fragment_of, numbered, off_note, clashes, cut}
use Rattle.networks.proofs.Laws.Boxes.{own_fact}

lowest_congr : {R D : Type 0} (p q : Own R D → Bool) (bs : List (Own R D)) → All (λ (b : Own R D). p b ≡ q b) bs → lowest p bs ≡ lowest q bs
lowest_congr p q [] h = refl
lowest_congr p q (b ∷ bs) h = ap₂ (λ (t : Bool) (o : Option ℕ). cond t (some b.id) o) h.0 (lowest_congr p q bs h.1)

module _ {R P D : Type 0} (N : Network R P D) (S T : Sheet R) (joined : All (Joined N) N.wires)
    (agree : All (λ (b : Own R D). (number S b.id ≡ number T b.id) × (note S b.id ≡ note T b.id)) (own_boxes N)) where
  same_number : (i : ℕ) → owns N i ≡ true → number S i ≡ number T i
  same_number i = own_fact N (λ (j : ℕ). number S j ≡ number T j) i (all_map (own_boxes N) (λ b e. e.0) agree)

  same_is_cut : (w : Wire) → is_cut N S w ≡ is_cut N T w
  same_is_cut w = go (owns N w.to) refl (owns N w.from) refl
    where
      go : (s : Bool) → owns N w.to ≡ s → (t : Bool) → owns N w.from ≡ t
          → s && (t && not (eqb (number S w.to) (number S w.from))) ≡ s && (t && not (eqb (number T w.to) (number T w.from)))
      go true p true q = rw (same_number w.to p, same_number w.from q) refl
      go true p false q = refl
      go false p t q = refl

  same_leaves : (i : ℕ) → leaves N S i ≡ leaves N T i
  unfolding leaves
  same_leaves i = any_congr _ _ N.wires (all_of N.wires (λ w. ap (◌&&◌ (eqb w.from i)) (same_is_cut w)))

  module _ (κ : ℕ → Bool) where
    same_feeds : (i : ℕ) → feeds N S κ i ≡ feeds N T κ i
    unfolding feeds
    same_feeds i = any_congr _ _ N.wires
        (all_map N.wires (λ w h. ap (λ (n : ℕ). eqb w.from i && κ n) (same_number w.to h.to_own)) joined)

    same_piece : (v : Box R D) → ((b : Own R D) → as_own v ≡ some b → (number S b.id ≡ number T b.id) × (note S b.id ≡ note T b.id))
        → piece N S κ v ≡ piece N T κ v
    same_piece (own b) h = let e = h b refl in rw (e.0, e.1, same_leaves b.id, same_feeds b.id) refl
    same_piece (input a) h = rw (same_feeds a.id) refl

    same_fragment : fragment_of N S κ ≡ fragment_of N T κ
    unfolding fragment_of
    same_fragment = λ i. record {
      policies = N.policies;
      boxes = same_boxes i;
      wires = same_wires i;
    }
      where
        same_boxes : filter_map (piece N S κ) N.boxes ≡ filter_map (piece N T κ) N.boxes
        same_boxes = filter_map_congr _ _ N.boxes (all_map N.boxes same_piece (filter_map_all _ as_own N.boxes agree))

        same_wires : filter (λ (w : Wire). κ (number S w.to)) N.wires ≡ filter (λ (w : Wire). κ (number T w.to)) N.wires
        same_wires = filter_congr _ _ N.wires (all_map N.wires (λ w h. ap κ (same_number w.to h.to_own)) joined)

pub same_cut : (𝓐 : Algebra) (B : Bounds) (N : NetworkOver 𝓐) → Sound B N → (S T : Sheet 𝓐.Route)
    → All (λ (b : Own 𝓐.Route 𝓐.Demand). (number S b.id ≡ number T b.id) × (note S b.id ≡ note T b.id)) (own_boxes N)
    → (k : ℕ) → cut 𝓐 N S k ≡ cut 𝓐 N T k
unfolding cut
same_cut 𝓐 B N sound S T agree k = rw (same_unentered, same_asked, same_clashes, same_fragment N S T sound.wires_joined agree (λ n. eqb n k)) refl
  where
    same_unentered : unentered N (note S) ≡ unentered N (note T)
    same_unentered = lowest_congr _ _ (own_boxes N) (all_map (own_boxes N) (λ b e. ap (λ (o : Option 𝓐.Route). not (is_some o)) e.1) agree)

    same_asked : any (numbered N S k) (own_boxes N) ≡ any (numbered N T k) (own_boxes N)
    same_asked = any_congr _ _ (own_boxes N) (all_map (own_boxes N) (λ b e. ap (λ (n : ℕ). eqb n k) e.0) agree)

    same_clashes : lowest (clashes 𝓐 N S) (own_boxes N) ≡ lowest (clashes 𝓐 N T) (own_boxes N)
    same_clashes = lowest_congr _ _ (own_boxes N) (all_map (own_boxes N)
        (λ b e. ap₂ (λ (l : Bool) (o : Option 𝓐.Route). l && off_note 𝓐 b.promise o) (same_leaves N S T sound.wires_joined agree b.id) e.1) agree)

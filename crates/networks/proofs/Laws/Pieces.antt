-- What a fragment has, in terms of the network that it is cut from; over any set κ of numbers and with no word of soundness.
--     piece_id, pieces_rise, box_piece        its boxes
--     own_boxes_fragment, own_kept, kept_own      its own boxes
--     inputs_kept, kept_inputs                its inputs
--     sends_fragment, edge_fragment, wires_into_fragment     its wires
use mathlib.Core.Path.{◌≡◌, refl, sym, ap, ◌∙◌, subst}
use mathlib.Core.Bool.{Bool, true, false, cond, ◌&&◌, and_comm}
use mathlib.Core.Option
use mathlib.Core.Option.{Option, none, some, bind, none-ne-some, some-injective}
use mathlib.Core.List.{map, filter_map-filter_map}
use Prim.Native.Nat.{ℕ}
use lib.Dec.{eqb}
use borrow.Author.Tests.{eqb-true}
use Rattle.lists.proofs.Test.{and_l, and_r, and_i, and_absorb, same_test}
use Rattle.lists.specs.All.{All, any}
use Rattle.lists.proofs.All.{all_map, all_both, all_of, any_congr, any_mono, any_here, any_found}
use Rattle.lists.specs.Filter.{filter}
use Rattle.lists.proofs.Filter.{filter_filter, filter_congr, any_filter, all_filter, filtered_all, all_mapped, mapped_all, map_filter, filter_map_congr, all_filter_map, filter_map_all}
use Rattle.lists.specs.Sorted.{Rises}
use Rattle.lists.proofs.Sorted.{rises_filter_map, find_filter_map}
use Rattle.networks.specs.Network.{Own, Input, Box, own, input, Wire, Network, box_id, as_own, as_input, own_boxes, inputs, box, wires_into}
use Rattle.networks.specs.Sound.{sends}
use Rattle.networks.specs.Sheets.{Sheet, number, note}
use Rattle.networks.specs.Cut.{feeds, promising_own, assuming, piece, fragment_of}
use Rattle.networks.specs.Paper.{between, E}

module _ {R P D : Type 0} (N : Network R P D) (S : Sheet R) (κ : ℕ → Bool) where
  -- what is kept of a box has its id
  pub piece_id : (v w : Box R D) → piece N S κ v ≡ some w → box_id w ≡ box_id v
  piece_id (own b) w e = go (κ (number S b.id)) (feeds N S κ b.id) (note S b.id) e
    where
      go : (s t : Bool) (n : Option R) → cond s (some (own (promising_own N S b))) (cond t (Option.map (assuming b) n) none) ≡ some w → box_id w ≡ b.id
      go true t n q = ap box_id (sym (some-injective _ _ q))
      go false true (some n) q = ap box_id (sym (some-injective _ _ q))
      go false true none q = absurd (none-ne-some _ q)
      go false false n q = absurd (none-ne-some _ q)
  piece_id (input a) w e = go (feeds N S κ a.id) e
    where
      go : (t : Bool) → cond t (some (input a)) none ≡ some w → box_id w ≡ a.id
      go true q = ap box_id (sym (some-injective _ _ q))
      go false q = absurd (none-ne-some _ q)

  pub pieces_rise : Rises box_id 0 N.boxes → Rises box_id 0 (fragment_of N S κ).boxes
  unfolding fragment_of
  pieces_rise = rises_filter_map box_id box_id (piece N S κ) piece_id 0 N.boxes

  pub box_piece : Rises box_id 0 N.boxes → (i : ℕ) → box (fragment_of N S κ) i ≡ bind (box N i) (piece N S κ)
  unfolding fragment_of
  box_piece rise i = find_filter_map box_id box_id (piece N S κ) piece_id i 0 N.boxes rise

  -- own boxes
  abbrev mine : Own R D → Bool
  mine b = κ (number S b.id)

  own_piece : (v : Box R D) → bind (piece N S κ v) as_own ≡ bind (as_own v) (λ (b : Own R D). cond (mine b) (some (promising_own N S b)) none)
  unfolding bind
  own_piece (own b) = go (mine b) (feeds N S κ b.id) (note S b.id)
    where
      go : (s t : Bool) (n : Option R) → bind (cond s (some (own (promising_own N S b))) (cond t (Option.map (assuming b) n) none)) as_own ≡ cond s
          (some (promising_own N S b)) none
      go true t n = refl
      go false true (some n) = refl
      go false true none = refl
      go false false n = refl
  own_piece (input a) = go (feeds N S κ a.id)
    where
      go : (t : Bool) → bind {A = Box R D} (cond t (some (input a)) none) as_own ≡ none
      go true = refl
      go false = refl

  -- a fragment's own boxes are those with its numbers, each promising_own its note where a cut wire leaves it
  pub own_boxes_fragment : own_boxes (fragment_of N S κ) ≡ map (promising_own N S) (filter (λ (b : Own R D). κ (number S b.id)) (own_boxes N))
  unfolding fragment_of
  own_boxes_fragment =
      filter_map-filter_map (piece N S κ) as_own N.boxes
      ∙ filter_map_congr _ _ N.boxes (all_of N.boxes own_piece)
      ∙ sym (filter_map-filter_map as_own (λ (b : Own R D). cond (mine b) (some (promising_own N S b)) none) N.boxes)
      ∙ sym (map_filter (promising_own N S) mine (own_boxes N))

  pub own_kept : (Q : Own R D → Type 0) → All (λ (b : Own R D). κ (number S b.id) ≡ true → Q (promising_own N S b)) (own_boxes N)
      → All Q (own_boxes (fragment_of N S κ))
  own_kept Q h = rw own_boxes_fragment (all_mapped Q (promising_own N S) (filter mine (own_boxes N))
      (all_filter (λ (b : Own R D). Q (promising_own N S b)) mine (own_boxes N) h))

  pub kept_own : (Q : Own R D → Type 0) → All Q (own_boxes (fragment_of N S κ))
      → All (λ (b : Own R D). κ (number S b.id) ≡ true → Q (promising_own N S b)) (own_boxes N)
  kept_own Q h = filtered_all (λ (b : Own R D). Q (promising_own N S b)) mine (own_boxes N)
      (mapped_all Q (promising_own N S) (filter mine (own_boxes N)) (rw own_boxes_fragment at h))

  -- inputs: those of the network that feed the fragment, and the own boxes of other numbers that do
  pub inputs_kept : (Q : Input R → Type 0)
      → All (λ (a : Input R). feeds N S κ a.id ≡ true → Q a) (inputs N)
      → All (λ (b : Own R D). κ (number S b.id) ≡ false → feeds N S κ b.id ≡ true → (n : R) → note S b.id ≡ some n
      → Q (record { id = b.id; assumed = n })) (own_boxes N)
      → All Q (inputs (fragment_of N S κ))
  unfolding fragment_of
  inputs_kept Q h k = all_filter_map Q as_input _ (all_filter_map _ (piece N S κ) N.boxes
      (all_map N.boxes at (all_both _ _ N.boxes (filter_map_all _ as_input N.boxes h) (filter_map_all _ as_own N.boxes k))))
    where
      at : (v : Box R D)
          → ((a : Input R) → as_input v ≡ some a → feeds N S κ a.id ≡ true → Q a)
          × ((b : Own R D) → as_own v ≡ some b → κ (number S b.id) ≡ false → feeds N S κ b.id ≡ true → (n : R) → note S b.id ≡ some n
          → Q (record { id = b.id; assumed = n }))
          → (w : Box R D) → piece N S κ v ≡ some w → (a : Input R) → as_input w ≡ some a → Q a
      at (input c) f w e a q = go (feeds N S κ c.id) refl e
        where
          go : (t : Bool) → feeds N S κ c.id ≡ t → cond t (some (input c)) none ≡ some w → Q a
          go true s z = subst Q (some-injective _ _ (ap as_input (some-injective _ _ z) ∙ q)) (f.0 c refl s)
          go false s z = absurd (none-ne-some _ z)
      at (own b) f w e a q = go (mine b) refl (feeds N S κ b.id) refl (note S b.id) refl e
        where
          go : (s : Bool) → mine b ≡ s → (t : Bool) → feeds N S κ b.id ≡ t → (n : Option R) → note S b.id ≡ n
              → cond s (some (own (promising_own N S b))) (cond t (Option.map (assuming b) n) none) ≡ some w → Q a
          go true s t u n m z = absurd (none-ne-some _ (ap as_input (some-injective _ _ z) ∙ q))
          go false s true u (some n) m z = subst Q (some-injective _ _ (ap as_input (some-injective _ _ z) ∙ q)) (f.1 b refl s u n m)
          go false s true u none m z = absurd (none-ne-some _ z)
          go false s false u n m z = absurd (none-ne-some _ z)

  pub kept_inputs : (Q : Input R → Type 0) → All Q (inputs (fragment_of N S κ)) → All (λ (a : Input R). feeds N S κ a.id ≡ true → Q a) (inputs N)
  unfolding fragment_of
  kept_inputs Q h = all_filter_map _ as_input N.boxes
      (all_map N.boxes at (filter_map_all _ (piece N S κ) N.boxes (filter_map_all Q as_input _ h)))
    where
      at : (v : Box R D) → ((w : Box R D) → piece N S κ v ≡ some w → (a : Input R) → as_input w ≡ some a → Q a)
          → (a : Input R) → as_input v ≡ some a → feeds N S κ a.id ≡ true → Q a
      at (own b) f a e t = absurd (none-ne-some _ e)
      at (input c) f a e t = subst Q (some-injective _ _ e) (f (input c) (rw (ap (λ (d : Input R). feeds N S κ d.id) (some-injective _ _ e) ∙ t) refl) c refl)

  -- wires: one of the fragment leads out of exactly the boxes that feed it
  pub sends_fragment : (i : ℕ) → sends (fragment_of N S κ) i ≡ feeds N S κ i
  unfolding fragment_of feeds
  sends_fragment i =
      any_filter (λ (w : Wire). κ (number S w.to)) (λ (w : Wire). eqb w.from i) N.wires
      ∙ any_congr _ _ N.wires (all_of N.wires (λ w. and_comm (κ (number S w.to)) (eqb w.from i)))

  -- edges are kept by their to end
  pub edge_fragment : (u v : ℕ) → E (fragment_of N S κ) u v ≡ κ (number S v) && E N u v
  unfolding fragment_of
  edge_fragment u v = any_filter (λ (w : Wire). κ (number S w.to)) (between u v) N.wires ∙ same_test _ _ forth back
    where
      to : (w : Wire) → between u v w ≡ true → κ (number S w.to) ≡ κ (number S v)
      to w h = ap (λ (j : ℕ). κ (number S j)) (eqb-true w.to v (and_r (eqb w.from u) (eqb w.to v) h))

      forth : any (λ (w : Wire). κ (number S w.to) && between u v w) N.wires ≡ true → κ (number S v) && E N u v ≡ true
      forth e =
          let f = any_found (λ (w : Wire). κ (number S w.to) && between u v w) N.wires (any_here N.wires) e in
          let w = f.0 in
          let j : between u v w ≡ true = and_r (κ (number S w.to)) (between u v w) f.2 in
          and_i _ _ (sym (to w j) ∙ and_l (κ (number S w.to)) (between u v w) f.2) (f.1 (between u v) j)

      back : κ (number S v) && E N u v ≡ true → any (λ (w : Wire). κ (number S w.to) && between u v w) N.wires ≡ true
      back e = any_mono _ _ N.wires (all_of N.wires (λ w h. and_i _ _ (to w h ∙ and_l (κ (number S v)) (E N u v) e) h))
          (and_r (κ (number S v)) (E N u v) e)

  -- an own box keeps its wires
  pub wires_into_fragment : (i : ℕ) → κ (number S i) ≡ true → wires_into (fragment_of N S κ) i ≡ wires_into N i
  unfolding fragment_of
  wires_into_fragment i t =
      filter_filter (λ (w : Wire). κ (number S w.to)) (λ (w : Wire). eqb w.to i) N.wires
      ∙ filter_congr _ _ N.wires (all_of N.wires (λ w. and_absorb _ _ (λ e. ap (λ (j : ℕ). κ (number S j)) (eqb-true w.to i e) ∙ t)))

-- A network with promises added where cut wires leave: it has the boxes, the wires and the cut wires of the network, and what is promised once
-- is not promised again.
--     box_promising, own_boxes_promising     its boxes
--     covered                                it is the fragment that every own box is in
--     none_promised                          it is the network where no cut wire leaves
--     promising_sound                        it is sound
--     cut_promising                          every fragment of it is the network's
use mathlib.Core.Path.{◌≡◌, refl, sym, ap, ap₂, ◌∙◌}
use mathlib.Core.Bool.{Bool, true, false, cond, not, ◌&&◌, or_self}
use mathlib.Core.Option
use mathlib.Core.Option.{Option, none, some}
use mathlib.Core.List.{List, [], ◌∷◌, map, filter_map, filter_map-map, map-filter_map, filter_map-eq-map, map-id}
use Prim.Native.Nat.{ℕ, ◌<◌}
use native.Mathlib.Omega.{arith}
use lib.Dec.{eqb}
use lib.ListN.{length-map}
use Rattle.lists.proofs.Test.{and_i}
use Rattle.lists.specs.All.{All, any}
use Rattle.lists.proofs.All.{all_map, all_of, all_both, any_congr, any_mono}
use Rattle.lists.specs.Answer.{is_some}
use Rattle.lists.specs.Filter.{filter}
use Rattle.lists.proofs.Filter.{filter_all, map_congr, filter_map_congr, filter_map_all, all_mapped, any_mapped}
use Rattle.lists.proofs.Sorted.{find_map, rises_map}
use Rattle.networks.specs.Algebra.{Algebra}
use Rattle.networks.specs.Network.{Own, Input, Box, own, input, Wire, Network, NetworkOver, ids, box_id, as_own, as_input, is_box, is_own_box, own_boxes, inputs, box, has_box, owns}
use Rattle.networks.specs.Sound.{Bounds, Joined, Sound, sends}
use Rattle.networks.specs.Sheets.{Sheet, number, note}
use Rattle.networks.specs.Lowest.{lowest, unentered}
use Rattle.networks.specs.Cut.{only, promised, assuming, leaves, feeds, promising_own, piece, fragment_of, numbered, off_note, clashes, cut}
use Rattle.networks.specs.Reunion.{promising_box, promising}
use Rattle.networks.proofs.Laws.Boxes.{own_fact}
use Rattle.networks.proofs.Laws.Recut.{twice_promised}

module _ {R P D : Type 0} (N : Network R P D) (S : Sheet R) where
  promising_id : (v : Box R D) → box_id (promising_box N S v) ≡ box_id v
  promising_id (own b) = refl
  promising_id (input a) = refl

  pub box_promising : (i : ℕ) → box (promising N S) i ≡ Option.map (promising_box N S) (box N i)
  unfolding promising
  box_promising i = find_map box_id box_id (promising_box N S) promising_id i N.boxes

  same_owns : (i : ℕ) → owns (promising N S) i ≡ owns N i
  same_owns i = ap is_own_box (box_promising i) ∙ go (box N i)
    where
      go : (o : Option (Box R D)) → is_own_box (Option.map (promising_box N S) o) ≡ is_own_box o
      go none = refl
      go (some (own b)) = refl
      go (some (input a)) = refl

  same_there : (i : ℕ) → has_box (promising N S) i ≡ has_box N i
  same_there i = ap is_box (box_promising i) ∙ go (box N i)
    where
      go : (o : Option (Box R D)) → is_box (Option.map (promising_box N S) o) ≡ is_box o
      go none = refl
      go (some v) = refl

  pub own_boxes_promising : own_boxes (promising N S) ≡ map (promising_own N S) (own_boxes N)
  unfolding promising
  own_boxes_promising =
      filter_map-map (promising_box N S) as_own N.boxes
      ∙ filter_map_congr _ _ N.boxes (all_of N.boxes at)
      ∙ sym (map-filter_map as_own (promising_own N S) N.boxes)
    where
      at : (v : Box R D) → as_own (promising_box N S v) ≡ Option.map (promising_own N S) (as_own v)
      at (own b) = refl
      at (input a) = refl

  same_inputs : inputs (promising N S) ≡ inputs N
  unfolding promising
  same_inputs = filter_map-map (promising_box N S) as_input N.boxes ∙ filter_map_congr _ _ N.boxes (all_of N.boxes at)
    where
      at : (v : Box R D) → as_input (promising_box N S v) ≡ as_input v
      at (own b) = refl
      at (input a) = refl

  -- the same wires are cut, and the same boxes feed a fragment
  same_leaves : (i : ℕ) → leaves (promising N S) S i ≡ leaves N S i
  unfolding leaves promising
  same_leaves i = any_congr _ _ N.wires (all_of N.wires at)
    where
      at : (w : Wire) → eqb w.from i && (owns (promising N S) w.to && (owns (promising N S) w.from && not (eqb (number S w.to) (number S w.from))))
          ≡ eqb w.from i && (owns N w.to && (owns N w.from && not (eqb (number S w.to) (number S w.from))))
      at w = ap₂ (λ (s t : Bool). eqb w.from i && (s && (t && not (eqb (number S w.to) (number S w.from))))) (same_owns w.to) (same_owns w.from)

  same_feeds : (κ : ℕ → Bool) (i : ℕ) → feeds (promising N S) S κ i ≡ feeds N S κ i
  unfolding feeds promising
  same_feeds κ i = refl

  -- a fragment that every own box is in keeps every box and every wire
  module _ (κ : ℕ → Bool) (joined : All (Joined N) N.wires) (used : All (λ (a : Input R). sends N a.id ≡ true) (inputs N))
      (cover : All (λ (b : Own R D). κ (number S b.id) ≡ true) (own_boxes N)) where
    all_into : All (λ (w : Wire). κ (number S w.to) ≡ true) N.wires
    all_into = all_map N.wires (λ w h. own_fact N (λ (i : ℕ). κ (number S i) ≡ true) w.to cover h.to_own) joined

    all_feed : All (λ (a : Input R). feeds N S κ a.id ≡ true) (inputs N)
    unfolding feeds
    all_feed = all_map (inputs N) (λ a. any_mono _ _ N.wires (all_map N.wires (λ w t e. and_i _ _ e t) all_into)) used

    kept : (v : Box R D)
        → ((b : Own R D) → as_own v ≡ some b → κ (number S b.id) ≡ true) × ((a : Input R) → as_input v ≡ some a → feeds N S κ a.id ≡ true)
        → piece N S κ v ≡ some (promising_box N S v)
    kept (own b) f = rw (f.0 b refl) refl
    kept (input a) f = rw (f.1 a refl) refl

    pub covered : fragment_of N S κ ≡ promising N S
    unfolding fragment_of promising
    covered = λ i. record { policies = N.policies; boxes = boxes i; wires = wires i }
      where
        boxes : filter_map (piece N S κ) N.boxes ≡ map (promising_box N S) N.boxes
        boxes = filter_map_congr (piece N S κ) (λ (v : Box R D). some (promising_box N S v)) N.boxes (all_map N.boxes kept (all_both _ _ N.boxes
            (filter_map_all _ as_own N.boxes cover) (filter_map_all _ as_input N.boxes all_feed)))
            ∙ filter_map-eq-map (promising_box N S) N.boxes

        wires : filter (λ (w : Wire). κ (number S w.to)) N.wires ≡ N.wires
        wires = filter_all (λ (w : Wire). κ (number S w.to)) N.wires all_into

  -- where no cut wire leaves an own box nothing is added
  unpromised : (p n : Option R) → promised p false n ≡ p
  unpromised none n = refl
  unpromised (some q) n = refl

  pub none_promised : All (λ (b : Own R D). leaves N S b.id ≡ false) (own_boxes N) → promising N S ≡ N
  unfolding promising
  none_promised none_leaves = λ i. record { policies = N.policies; boxes = boxes i; wires = N.wires }
    where
      same_box : (v : Box R D) → ((b : Own R D) → as_own v ≡ some b → leaves N S b.id ≡ false) → promising_box N S v ≡ v
      same_box (own b) f = rw (f b refl)
          (ap (λ (p : Option R). own (record { id = b.id; initial = b.initial; promise = p; demand = b.demand })) (unpromised b.promise (note S b.id)))
      same_box (input a) f = refl

      boxes : map (promising_box N S) N.boxes ≡ N.boxes
      boxes = map_congr (promising_box N S) (λ (v : Box R D). v) N.boxes (all_map N.boxes same_box (filter_map_all _ as_own N.boxes none_leaves))
          ∙ map-id N.boxes

  pub promising_sound : (B : Bounds) → Sound B N → Sound B (promising N S)
  unfolding promising
  promising_sound B sound = record {
    boxes_within = omega (arith, length-map N.boxes (promising_box N S), sound.boxes_within);
    wires_within = sound.wires_within;
    policies_within = sound.policies_within;
    ids_within = all_mapped (λ (v : Box R D). box_id v < ids) (promising_box N S) N.boxes
        (all_map N.boxes (λ v l. rw (promising_id v) l) sound.ids_within);
    boxes_rise = rises_map box_id box_id (promising_box N S) promising_id 0 N.boxes sound.boxes_rise;
    some_own = rw (own_boxes_promising, length-map (own_boxes N) (promising_own N S)) sound.some_own;
    wires_rise = sound.wires_rise;
    wires_joined = all_map N.wires at sound.wires_joined;
    inputs_used = rw same_inputs sound.inputs_used;
  }
    where
      at : (w : Wire) → Joined N w → Joined (promising N S) w
      at w h = record {
        to_own = same_owns w.to ∙ h.to_own;
        from_there = same_there w.from ∙ h.from_there;
        differ = h.differ;
        policy_there = h.policy_there;
      }

  -- what is kept of a box that promises is what is kept of the box
  piece_promising : (κ : ℕ → Bool) (v : Box R D) → piece (promising N S) S κ (promising_box N S v) ≡ piece N S κ v
  piece_promising κ (own b) = ap₂ (λ (p : Option R) (t : Bool). cond (κ (number S b.id))
      (some (own (record { id = b.id; initial = b.initial; promise = p; demand = b.demand }))) (cond t (Option.map (assuming b) (note S b.id)) none))
      (ap (λ (l : Bool). promised (promised b.promise (leaves N S b.id) (note S b.id)) l (note S b.id)) (same_leaves b.id)
      ∙ twice_promised b.promise (note S b.id) (leaves N S b.id) (leaves N S b.id)
      ∙ ap (λ (l : Bool). promised b.promise l (note S b.id)) (or_self (leaves N S b.id)))
      (same_feeds κ b.id)
  piece_promising κ (input a) = ap (λ (t : Bool). cond t (some (input a)) none) (same_feeds κ a.id)

  pub fragment_promising : (κ : ℕ → Bool) → fragment_of (promising N S) S κ ≡ fragment_of N S κ
  unfolding fragment_of promising
  fragment_promising κ = λ i. record { policies = N.policies; boxes = boxes i; wires = filter (λ (w : Wire). κ (number S w.to)) N.wires }
    where
      boxes : filter_map (piece (promising N S) S κ) (map (promising_box N S) N.boxes) ≡ filter_map (piece N S κ) N.boxes
      boxes = filter_map-map (promising_box N S) (piece (promising N S) S κ) N.boxes
          ∙ filter_map_congr _ _ N.boxes (all_of N.boxes (piece_promising κ))

  -- a test of a box that promises, where it is the test of the box
  lowest_promising : (test before : Own R D → Bool) → ((b : Own R D) → test (promising_own N S b) ≡ before b) → (bs : List (Own R D))
      → lowest test (map (promising_own N S) bs) ≡ lowest before bs
  lowest_promising test before h [] = refl
  lowest_promising test before h (b ∷ bs) = ap₂ (λ (t : Bool) (o : Option ℕ). cond t (some b.id) o) (h b) (lowest_promising test before h bs)

module _ (𝓐 : Algebra) (N : NetworkOver 𝓐) (S : Sheet 𝓐.Route) where
  open 𝓐 use {Route, Demand, same_self}

  -- 19: the note that is added is the note
  same_clash : (l : Bool) (p n : Option Route) → l && off_note 𝓐 (promised p l n) n ≡ l && off_note 𝓐 p n
  same_clash false p n = refl
  same_clash true (some q) n = refl
  same_clash true none none = refl
  same_clash true none (some n) = ap not (same_self n)

  clash_promising : (b : Own Route Demand) → clashes 𝓐 (promising N S) S (promising_own N S b) ≡ clashes 𝓐 N S b
  clash_promising b =
      ap (λ (l : Bool). l && off_note 𝓐 (promised b.promise (leaves N S b.id) (note S b.id)) (note S b.id)) (same_leaves N S b.id)
      ∙ same_clash (leaves N S b.id) b.promise (note S b.id)

  pub cut_promising : (k : ℕ) → cut 𝓐 (promising N S) S k ≡ cut 𝓐 N S k
  unfolding cut
  cut_promising k = rw (own_boxes_promising N S, fragment_promising N S (only k), no_entry, numbers, clash) refl
    where
      no_entry : lowest (λ (b : Own Route Demand). not (is_some (note S b.id))) (map (promising_own N S) (own_boxes N)) ≡ unentered N (note S)
      no_entry = lowest_promising N S (λ (b : Own Route Demand). not (is_some (note S b.id))) (λ (b : Own Route Demand). not (is_some (note S b.id)))
          (λ b. refl) (own_boxes N)

      numbers : any (numbered N S k) (map (promising_own N S) (own_boxes N)) ≡ any (numbered N S k) (own_boxes N)
      numbers = any_mapped (numbered N S k) (promising_own N S) (own_boxes N)

      clash : lowest (clashes 𝓐 (promising N S) S) (map (promising_own N S) (own_boxes N)) ≡ lowest (clashes 𝓐 N S) (own_boxes N)
      clash = lowest_promising N S (clashes 𝓐 (promising N S) S) (clashes 𝓐 N S) clash_promising (own_boxes N)

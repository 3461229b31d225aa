-- The joint network of two, by its boxes; with no word of routes. Its wires are in JointWires.
--     meeting_id, meeting_assoc, stays     of two boxes with one id the one that stays
--     OwnOnce, once_back                   no box is owned by both
--     own_both, inputs_both, wires_both    what all own boxes, inputs, wires of both have
--     box_joining, owns_joining, ..        the box with an id
--     first_own_lem, first_input               own boxes stay as they are, and inputs that the other does not own
--     own_of_either, input_of_either       and no others are there; joining_own, what every own box then has
--     length_boxes, length_own             how many there are
--     joining_assoc                        three networks
use mathlib.Core.Path.{◌≡◌, refl, sym, ap, ap₂, ◌∙◌}
use mathlib.Core.Bool.{Bool, true, false, not, ◌&&◌, ◌||◌, false≢true, true≢false}
use mathlib.Core.Logic.{◌⊎◌, inl, inr}
use mathlib.Core.Option.{Option, none, some, bind}
use mathlib.Core.List.{List}
use Prim.Native.Nat.{ℕ, ◌+◌}
use native.Mathlib.Omega.{arith}
use lib.ListN.{length}
use Rattle.lists.specs.All.{All}
use Rattle.lists.proofs.All.{all_map, all_of}
use Rattle.lists.specs.Answer.{is_some}
use Rattle.lists.specs.Filter.{filter}
use Rattle.lists.proofs.Filter.{all_filter_map, filter_map_all, filter_congr, length_none}
use Rattle.lists.specs.Sorted.{Rises, find}
use Rattle.lists.specs.Union.{either, union}
use Rattle.lists.proofs.Union.{rising_ext, rises_union, find_union, union_assoc, all_union, length_union}
use Rattle.networks.specs.Network.{Own, Input, Box, own, input, Wire, Network, wire_key, box_id, as_own, as_input, is_box, is_own_box, own_boxes, inputs, box, has_box, owns}
use Rattle.networks.specs.Paper.{assumed_of, V_in}
use Rattle.networks.specs.Join.{meeting, first_wire, joining}
use Rattle.networks.proofs.Laws.Boxes.{own_there, own_found, own_rise, find_own}

module _ {R D : Type 0} where
  pub meeting_id : (v u : Box R D) → box_id v ≡ box_id u → box_id (meeting v u) ≡ box_id v
  meeting_id (own b) u e = refl
  meeting_id (input a) (own b) e = sym e
  meeting_id (input a) (input c) e = refl

  pub meeting_assoc : (u v w : Box R D) → meeting (meeting u v) w ≡ meeting u (meeting v w)
  meeting_assoc (own b) v w = refl
  meeting_assoc (input a) (own b) w = refl
  meeting_assoc (input a) (input c) (own b) = refl
  meeting_assoc (input a) (input c) (input d) = refl

  -- it is one of the two
  stays : (Q : Box R D → Type 0) (v u : Box R D) → Q v → Q u → Q (meeting v u)
  stays Q (own b) u p q = p
  stays Q (input a) (own b) p q = q
  stays Q (input a) (input c) p q = p

  own_either : (o p : Option (Box R D)) → is_own_box (either meeting o p) ≡ is_own_box o || is_own_box p
  own_either none p = refl
  own_either (some (own b)) none = refl
  own_either (some (own b)) (some v) = refl
  own_either (some (input a)) none = refl
  own_either (some (input a)) (some (own b)) = refl
  own_either (some (input a)) (some (input c)) = refl

  box_either : (o p : Option (Box R D)) → is_box (either meeting o p) ≡ is_box o || is_box p
  box_either none p = refl
  box_either (some v) none = refl
  box_either (some v) (some u) = refl

  input_either : (o p : Option (Box R D)) → is_some (assumed_of (either meeting o p))
      ≡ (is_some (assumed_of o) || is_some (assumed_of p)) && not (is_own_box o || is_own_box p)
  input_either none none = refl
  input_either none (some (own b)) = refl
  input_either none (some (input c)) = refl
  input_either (some (own b)) none = refl
  input_either (some (own b)) (some (own c)) = refl
  input_either (some (own b)) (some (input c)) = refl
  input_either (some (input a)) none = refl
  input_either (some (input a)) (some (own b)) = refl
  input_either (some (input a)) (some (input c)) = refl

-- own boxes by their ids
abbrev own_id : {R D : Type 0} → Own R D → ℕ
own_id b = b.id

abbrev first_own : {R D : Type 0} → Own R D → Own R D → Own R D
first_own b c = b

-- no box is owned by both
abbrev pub OwnOnce : {R P D : Type 0} → Network R P D → Network R P D → Type 0
OwnOnce N M = (i : ℕ) → owns N i ≡ true → owns M i ≡ false

pub once_back : {R P D : Type 0} (N M : Network R P D) → OwnOnce N M → OwnOnce M N
once_back N M once i t = go (owns N i) refl
  where
    go : (s : Bool) → owns N i ≡ s → s ≡ false
    go true q = absurd (false≢true (sym (once i q) ∙ t))
    go false q = refl

module _ {R P D : Type 0} (N M : Network R P D) where
  pub boxes_both : (Q : Box R D → Type 0) → All Q N.boxes → All Q M.boxes → All Q (joining N M).boxes
  unfolding joining
  boxes_both Q = all_union box_id meeting Q (stays Q) N.boxes M.boxes

  pub own_both : (Q : Own R D → Type 0) → All Q (own_boxes N) → All Q (own_boxes M) → All Q (own_boxes (joining N M))
  own_both Q h k = all_filter_map Q as_own (joining N M).boxes
      (boxes_both (λ (v : Box R D). (b : Own R D) → as_own v ≡ some b → Q b) (filter_map_all Q as_own N.boxes h) (filter_map_all Q as_own M.boxes k))

  pub inputs_both : (Q : Input R → Type 0) → All Q (inputs N) → All Q (inputs M) → All Q (inputs (joining N M))
  inputs_both Q h k = all_filter_map Q as_input (joining N M).boxes
      (boxes_both (λ (v : Box R D). (a : Input R) → as_input v ≡ some a → Q a) (filter_map_all Q as_input N.boxes h) (filter_map_all Q as_input M.boxes k))

  pub wires_both : (Q : Wire → Type 0) → All Q N.wires → All Q M.wires → All Q (joining N M).wires
  unfolding joining
  wires_both Q = all_union wire_key first_wire Q (λ w v p q. p) N.wires M.wires

  module _ (rise : Rises box_id 0 N.boxes) (rise' : Rises box_id 0 M.boxes) where
    pub joining_rise : Rises box_id 0 (joining N M).boxes
    unfolding joining
    joining_rise = rises_union box_id meeting meeting_id 0 N.boxes M.boxes rise rise'

    pub box_joining : (i : ℕ) → box (joining N M) i ≡ either meeting (box N i) (box M i)
    unfolding joining
    box_joining i = find_union box_id meeting meeting_id i 0 N.boxes M.boxes rise rise'

    pub owns_joining : (i : ℕ) → owns (joining N M) i ≡ owns N i || owns M i
    owns_joining i = ap is_own_box (box_joining i) ∙ own_either (box N i) (box M i)

    pub has_joining : (i : ℕ) → has_box (joining N M) i ≡ has_box N i || has_box M i
    has_joining i = ap is_box (box_joining i) ∙ box_either (box N i) (box M i)

    pub input_joining : (i : ℕ) → V_in (joining N M) i ≡ (V_in N i || V_in M i) && not (owns N i || owns M i)
    input_joining i = ap (λ (o : Option (Box R D)). is_some (assumed_of o)) (box_joining i) ∙ input_either (box N i) (box M i)

    -- an own box of the first stays as it is
    pub first_own_lem : (i : ℕ) (b : Own R D) → box N i ≡ some (own b) → box (joining N M) i ≡ some (own b)
    first_own_lem i b e = box_joining i ∙ ap (λ (o : Option (Box R D)). either meeting o (box M i)) e ∙ go (box M i)
      where
        go : (o : Option (Box R D)) → either meeting (some (own b)) o ≡ some (own b)
        go none = refl
        go (some v) = refl

    -- an input of the first stays where the second does not own it
    pub first_input : (i : ℕ) (a : Input R) → box N i ≡ some (input a) → owns M i ≡ false → box (joining N M) i ≡ some (input a)
    first_input i a e t = box_joining i ∙ ap (λ (o : Option (Box R D)). either meeting o (box M i)) e ∙ go (box M i) t
      where
        go : (o : Option (Box R D)) → is_own_box o ≡ false → either meeting (some (input a)) o ≡ some (input a)
        go none f = refl
        go (some (own b)) f = absurd (true≢false f)
        go (some (input c)) f = refl

    -- and no other box is there
    pub own_of_either : (i : ℕ) (b : Own R D) → box (joining N M) i ≡ some (own b) → (box N i ≡ some (own b)) ⊎ (box M i ≡ some (own b))
    own_of_either i b e = go (box N i) (box M i) (sym (box_joining i) ∙ e)
      where
        go : (o p : Option (Box R D)) → either meeting o p ≡ some (own b) → (o ≡ some (own b)) ⊎ (p ≡ some (own b))
        go none p f = inr f
        go (some v) none f = inl f
        go (some (own c)) (some u) f = inl f
        go (some (input a)) (some (own c)) f = inr f
        go (some (input a)) (some (input c)) f = inl f

    pub input_of_either : (i : ℕ) (a : Input R) → box (joining N M) i ≡ some (input a)
        → ((box N i ≡ some (input a)) ⊎ (box M i ≡ some (input a))) × (owns N i ≡ false) × (owns M i ≡ false)
    input_of_either i a e = go (box N i) (box M i) (sym (box_joining i) ∙ e)
      where
        go : (o p : Option (Box R D)) → either meeting o p ≡ some (input a)
            → ((o ≡ some (input a)) ⊎ (p ≡ some (input a))) × (is_own_box o ≡ false) × (is_own_box p ≡ false)
        go none p f = (inr f, refl, ap is_own_box f)
        go (some v) none f = (inl f, ap is_own_box f, refl)
        go (some (own c)) (some u) f = absurd (true≢false (ap is_own_box f))
        go (some (input c)) (some (own b)) f = absurd (true≢false (ap is_own_box f))
        go (some (input c)) (some (input d)) f = (inl f, refl, refl)

    pub joining_own : (Q : Own R D → Type 0) → All Q (own_boxes (joining N M)) → All Q (own_boxes N)
    joining_own Q h = all_map (own_boxes N) (λ b e. own_found (joining N M) Q b.id b h (first_own_lem b.id b e)) (own_there N rise)

    -- how many boxes: those of both, with one that both have counted once
    pub length_boxes : length (joining N M).boxes + length (filter (λ (v : Box R D). has_box M (box_id v)) N.boxes)
        ≡ length N.boxes + length M.boxes
    unfolding joining
    length_boxes =
        ap (λ (vs : List (Box R D)). length (joining N M).boxes + length vs)
        (filter_congr _ _ N.boxes (all_of N.boxes (λ v. found (box M (box_id v)))))
        ∙ length_union box_id meeting 0 N.boxes M.boxes rise rise'
      where
        found : (o : Option (Box R D)) → is_box o ≡ is_some o
        found none = refl
        found (some v) = refl

    -- the own boxes are those of both
    own_joining : own_boxes (joining N M) ≡ union own_id first_own (own_boxes N) (own_boxes M)
    unfolding bind
    own_joining = rising_ext own_id 0 _ _ (own_rise (joining N M) joining_rise)
        (rises_union own_id first_own (λ b c e. refl) 0 (own_boxes N) (own_boxes M) (own_rise N rise) (own_rise M rise'))
        (λ i. find_own (joining N M) joining_rise i ∙ ap (λ (o : Option (Box R D)). bind o as_own) (box_joining i) ∙ go (box N i) (box M i)
        ∙ sym (find_union own_id first_own (λ b c e. refl) i 0 (own_boxes N) (own_boxes M) (own_rise N rise) (own_rise M rise')
        ∙ ap₂ (either first_own) (find_own N rise i) (find_own M rise' i)))
      where
        go : (o p : Option (Box R D)) → bind (either meeting o p) as_own ≡ either first_own (bind o as_own) (bind p as_own)
        go none p = refl
        go (some (own b)) none = refl
        go (some (own b)) (some (own c)) = refl
        go (some (own b)) (some (input c)) = refl
        go (some (input a)) none = refl
        go (some (input a)) (some (own c)) = refl
        go (some (input a)) (some (input c)) = refl

    pub length_own : OwnOnce N M → length (own_boxes (joining N M)) ≡ length (own_boxes N) + length (own_boxes M)
    unfolding bind
    length_own once =
        let e = length_union own_id first_own 0 (own_boxes N) (own_boxes M) (own_rise N rise) (own_rise M rise') in
        let z = (length_none (λ (b : Own R D). is_some (find own_id b.id (own_boxes M))) (own_boxes N)).1
        (all_map (own_boxes N) (λ b f. ap is_some (find_own M rise' b.id) ∙ alone (box M b.id) (once b.id (ap is_own_box f))) (own_there N rise)) in
        ap length own_joining ∙ omega arith
      where
        alone : (o : Option (Box R D)) → is_own_box o ≡ false → is_some (bind o as_own) ≡ false
        alone none f = refl
        alone (some (own b)) f = absurd (true≢false f)
        alone (some (input a)) f = refl

  pub policies_joining : (joining N M).policies ≡ N.policies
  unfolding joining
  policies_joining = refl

  pub joining_wires_rise : Rises wire_key 0 N.wires → Rises wire_key 0 M.wires → Rises wire_key 0 (joining N M).wires
  unfolding joining
  joining_wires_rise = rises_union wire_key first_wire (λ w v e. refl) 0 N.wires M.wires

-- three networks, in either grouping
pub joining_assoc : {R P D : Type 0} (N M K : Network R P D) → Rises box_id 0 N.boxes → Rises box_id 0 M.boxes → Rises box_id 0 K.boxes
    → Rises wire_key 0 N.wires → Rises wire_key 0 M.wires → Rises wire_key 0 K.wires → joining (joining N M) K ≡ joining N (joining M K)
unfolding joining
joining_assoc N M K n m k n' m' k' = λ t. record {
  policies = N.policies;
  boxes = union_assoc box_id meeting meeting_id meeting_assoc 0 N.boxes M.boxes K.boxes n m k t;
  wires = union_assoc wire_key first_wire (λ w v e. refl) (λ u v w. refl) 0 N.wires M.wires K.wires n' m' k' t;
}

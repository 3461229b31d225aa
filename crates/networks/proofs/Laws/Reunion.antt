-- The fragments of one cut, joined. At every id the two fragments keep what the fragment of both sets of numbers keeps, for of an own box and
-- an input with its id the own box stays; and what is assumed of a box is its note, which its own fragment promises.
--     joining_fragments     two fragments, joined
--     fragments_fit         nothing is refused where they have no number in common; join_fragments, that they are joined
--     Halves, halves        the two parts of a plan
--     parts_joined          a plan of fragments; some_among, that an own box is in what it gives
use mathlib.Core.Path.{◌≡◌, refl, sym, ap, ap₂, ◌∙◌, fun_ext}
use mathlib.Core.Bool.{Bool, true, false, cond, ◌&&◌, ◌||◌, or-false, and-or_distrib_left, false≢true, true≢false}
use mathlib.Core.Option.{Option, none, some, map, bind}
use Prim.Native.Nat.{ℕ}
use native.Mathlib.Omega.{arith}
use lib.Dec.{eqb}
use Rattle.lists.proofs.Test.{or_i_l}
use Rattle.lists.specs.All.{All, any, Distinct}
use Rattle.lists.proofs.All.{all_map, all_of, all_both, append_all, any_congr, any_mono, any_or, any_append, distinct_front, distinct_back, distinct_apart}
use Rattle.lists.specs.Answer.{Answer, given, and_then}
use Rattle.lists.specs.Sorted.{find, Rises}
use Rattle.lists.proofs.Sorted.{rises_filter, find_filter}
use Rattle.lists.specs.Union.{either, union}
use Rattle.lists.proofs.Union.{rising_ext, rises_union, find_union}
use Rattle.networks.specs.Algebra.{Algebra, Telling}
use Rattle.networks.specs.Network.{Own, Input, Box, own, input, Wire, Network, NetworkOver, wire_key, box_id, is_own_box, own_boxes, inputs, box, owns}
use Rattle.networks.specs.Sound.{Bounds, Sound}
use Rattle.networks.specs.Sheets.{Sheet, number, note}
use Rattle.networks.specs.Cut.{only, promised, assuming, leaves, feeds, promising_own, piece, fragment_of, numbered}
use Rattle.networks.specs.Join.{meeting, first_wire, joining, promises, matched, join, Fitting}
use Rattle.networks.specs.Reunion.{Plan, part, both, numbers, among, join_parts}
use Rattle.networks.proofs.Laws.Boxes.{own_there, input_there}
use Rattle.networks.proofs.Laws.Pieces.{pieces_rise, box_piece, inputs_kept}
use Rattle.networks.proofs.Laws.Formed.{Formed, sound_formed, feeds_leaves, owns_fragment}
use Rattle.networks.proofs.Laws.Soundness.{fragment_less}
use Rattle.networks.proofs.Laws.Cutting.{Fits, cut_answer_lem}
use Rattle.networks.proofs.Laws.Fitting.{fitting_joined}

meeting_id : {R D : Type 0} (v w : Box R D) → box_id v ≡ box_id w → box_id (meeting v w) ≡ box_id v
meeting_id (own b) w e = refl
meeting_id (input a) (own b) e = sym e
meeting_id (input a) (input c) e = refl

module _ {R P D : Type 0} (N : Network R P D) (S : Sheet R) (κ μ : ℕ → Bool) where
  -- a number of either set
  abbrev in_either : ℕ → Bool
  in_either n = κ n || μ n

  feeds_either : (i : ℕ) → feeds N S in_either i ≡ feeds N S κ i || feeds N S μ i
  unfolding feeds
  feeds_either i =
      any_congr _ _ N.wires (all_of N.wires (λ w. and-or_distrib_left (eqb w.from i) (κ (number S w.to)) (μ (number S w.to))))
      ∙ sym (any_or (λ (w : Wire). eqb w.from i && κ (number S w.to)) (λ (w : Wire). eqb w.from i && μ (number S w.to)) N.wires)

  -- what the two fragments keep of a box
  piece_either : (v : Box R D) → either meeting (piece N S κ v) (piece N S μ v) ≡ piece N S in_either v
  piece_either (input a) = rw (feeds_either a.id) (go (feeds N S κ a.id) (feeds N S μ a.id))
    where
      go : (s t : Bool) → either {A = Box R D} meeting (cond s (some (input a)) none) (cond t (some (input a)) none) ≡ cond (s || t) (some (input a)) none
      go true true = refl
      go true false = refl
      go false t = refl
  piece_either (own b) = rw (feeds_either b.id)
      (go (κ (number S b.id)) (μ (number S b.id)) (feeds N S κ b.id) (feeds N S μ b.id) (note S b.id))
    where
      own_first : (c : Own R D) (o : Option (Box R D)) → either meeting (some (own c)) o ≡ some (own c)
      own_first c none = refl
      own_first c (some v) = refl

      go : (α β s t : Bool) (n : Option R)
          → either meeting (cond α (some (own (promising_own N S b))) (cond s (map (assuming b) n) none))
          (cond β (some (own (promising_own N S b))) (cond t (map (assuming b) n) none))
          ≡ cond (α || β) (some (own (promising_own N S b))) (cond (s || t) (map (assuming b) n) none)
      go true β s t n = own_first (promising_own N S b) (cond β (some (own (promising_own N S b))) (cond t (map (assuming b) n) none))
      go false true true t none = refl
      go false true true t (some n) = refl
      go false true false t n = refl
      go false false true true none = refl
      go false false true true (some n) = refl
      go false false true false none = refl
      go false false true false (some n) = refl
      go false false false t n = refl

  boxes_either : Rises box_id 0 N.boxes
      → union box_id meeting (fragment_of N S κ).boxes (fragment_of N S μ).boxes ≡ (fragment_of N S in_either).boxes
  unfolding bind
  boxes_either rise = rising_ext box_id 0 _ _
      (rises_union box_id meeting meeting_id 0 (fragment_of N S κ).boxes (fragment_of N S μ).boxes (pieces_rise N S κ rise) (pieces_rise N S μ rise))
      (pieces_rise N S in_either rise)
      (λ i. find_union box_id meeting meeting_id i 0 (fragment_of N S κ).boxes (fragment_of N S μ).boxes (pieces_rise N S κ rise) (pieces_rise N S μ rise)
      ∙ ap₂ (either meeting) (box_piece N S κ rise i) (box_piece N S μ rise i)
      ∙ go (box N i)
      ∙ sym (box_piece N S in_either rise i))
    where
      go : (o : Option (Box R D)) → either meeting (bind o (piece N S κ)) (bind o (piece N S μ)) ≡ bind o (piece N S in_either)
      go none = refl
      go (some v) = piece_either v

  -- a wire is kept by its to end
  abbrev keeping : (ℕ → Bool) → Wire → Option Wire
  keeping ν w = cond (ν (number S w.to)) (some w) none

  wires_rise : (ν : ℕ → Bool) → Rises wire_key 0 N.wires → Rises wire_key 0 (fragment_of N S ν).wires
  unfolding fragment_of
  wires_rise ν rise = rises_filter wire_key (λ (w : Wire). ν (number S w.to)) 0 N.wires rise

  wire_kept_lem : (ν : ℕ → Bool) → Rises wire_key 0 N.wires → (i : ℕ) → find wire_key i (fragment_of N S ν).wires ≡ bind (find wire_key i N.wires) (keeping ν)
  unfolding fragment_of
  wire_kept_lem ν rise i = find_filter wire_key (λ (w : Wire). ν (number S w.to)) i 0 N.wires rise

  wires_either : Rises wire_key 0 N.wires
      → union wire_key first_wire (fragment_of N S κ).wires (fragment_of N S μ).wires ≡ (fragment_of N S in_either).wires
  unfolding bind
  wires_either rise = rising_ext wire_key 0 _ _
      (rises_union wire_key first_wire first 0 (fragment_of N S κ).wires (fragment_of N S μ).wires (wires_rise κ rise) (wires_rise μ rise))
      (wires_rise in_either rise)
      (λ i. find_union wire_key first_wire first i 0 (fragment_of N S κ).wires (fragment_of N S μ).wires (wires_rise κ rise) (wires_rise μ rise)
      ∙ ap₂ (either first_wire) (wire_kept_lem κ rise i) (wire_kept_lem μ rise i)
      ∙ go (find wire_key i N.wires)
      ∙ sym (wire_kept_lem in_either rise i))
    where
      first : (w v : Wire) → wire_key w ≡ wire_key v → wire_key (first_wire w v) ≡ wire_key w
      first w v e = refl

      same : (w : Wire) (s t : Bool) → either first_wire (cond s (some w) none) (cond t (some w) none) ≡ cond (s || t) (some w) none
      same w true true = refl
      same w true false = refl
      same w false t = refl

      go : (o : Option Wire) → either first_wire (bind o (keeping κ)) (bind o (keeping μ)) ≡ bind o (keeping in_either)
      go none = refl
      go (some w) = same w (κ (number S w.to)) (μ (number S w.to))

  pub joining_fragments : Rises box_id 0 N.boxes → Rises wire_key 0 N.wires
      → joining (fragment_of N S κ) (fragment_of N S μ) ≡ fragment_of N S (λ (n : ℕ). κ n || μ n)
  unfolding joining fragment_of
  joining_fragments boxes wires = λ i. record { policies = N.policies; boxes = boxes_either boxes i; wires = wires_either wires i }

-- Of a plan of numbers that are all different, each some own box's, the two parts are so too, with no number in common.
pub record Halves {R P D X : Type 0} (N : Network R P D) (S : Sheet R) (l r : Plan X) : Type 0 where
  pub first_once : Distinct (numbers l)
  pub first_there : All (λ (k : ℕ). any (numbered N S k) (own_boxes N) ≡ true) (numbers l)
  pub second_once : Distinct (numbers r)
  pub second_there : All (λ (k : ℕ). any (numbered N S k) (own_boxes N) ≡ true) (numbers r)
  pub apart : (n : ℕ) → among (numbers l) n ≡ true → among (numbers r) n ≡ false

pub halves : {R P D X : Type 0} (N : Network R P D) (S : Sheet R) (l r : Plan X) (x : X) → Distinct (numbers (both l r x))
    → All (λ (k : ℕ). any (numbered N S k) (own_boxes N) ≡ true) (numbers (both l r x)) → Halves N S l r
halves N S l r x once there =
    let parts = append_all (λ (k : ℕ). any (numbered N S k) (own_boxes N) ≡ true) (numbers l) (numbers r) there in
    record {
      first_once = distinct_front (numbers l) (numbers r) once;
      first_there = parts.0;
      second_once = distinct_back (numbers l) (numbers r) once;
      second_there = parts.1;
      apart = distinct_apart (numbers l) (numbers r) once;
    }

module _ (𝓐 : Algebra) (B : Bounds) (N : NetworkOver 𝓐) (S : Sheet 𝓐.Route) (sound : Sound B N) (fits : Fits N S) where
  open 𝓐 use {Route, Policy, Demand, same_self}

  formed : Formed N
  formed = sound_formed B N sound

  -- 21: an own box is in one of the sets alone, and what is no own box is none in a fragment
  not_owned : (κ : ℕ → Bool) (i : ℕ) → owns N i ≡ false → owns (fragment_of N S κ) i ≡ false
  unfolding bind
  not_owned κ i e = ap is_own_box (box_piece N S κ sound.boxes_rise i) ∙ go (box N i) e
    where
      kept : (a : Input Route) (t : Bool) → is_own_box {R = Route} {D = Demand} (cond t (some (input a)) none) ≡ false
      kept a true = refl
      kept a false = refl

      go : (o : Option (Box Route Demand)) → is_own_box o ≡ false → is_own_box (bind o (piece N S κ)) ≡ false
      go none q = refl
      go (some (own b)) q = absurd (true≢false q)
      go (some (input a)) q = kept a (feeds N S κ a.id)

  owned_once_lem : (κ μ : ℕ → Bool) → ((n : ℕ) → κ n ≡ true → μ n ≡ false) → (i : ℕ) → owns (fragment_of N S κ) i ≡ true → owns (fragment_of N S μ) i ≡ false
  owned_once_lem κ μ apart i t = go (owns N i) refl
    where
      go : (s : Bool) → owns N i ≡ s → owns (fragment_of N S μ) i ≡ false
      go true q = owns_fragment N S formed μ i q ∙ apart (number S i) (sym (owns_fragment N S formed κ i q) ∙ t)
      go false q = not_owned μ i q

  -- 22: a box that a cut wire leaves promises its note
  promised_note : (n : Route) (p m : Option Route) (l : Bool) → l ≡ true → m ≡ some n → ((q : Route) → p ≡ some q → m ≡ some q) → promised p l m ≡ some n
  promised_note n none m true t e f = e
  promised_note n none m false t e f = absurd (false≢true t)
  promised_note n (some q) m l t e f = sym (f q refl) ∙ e

  assumed_matched : (κ μ : ℕ → Bool)
      → All (λ (a : Input Route). matched 𝓐 a.assumed (box (fragment_of N S μ) a.id) ≡ true) (inputs (fragment_of N S κ))
  unfolding bind
  assumed_matched κ μ = inputs_kept N S κ (λ (a : Input Route). matched 𝓐 a.assumed (box (fragment_of N S μ) a.id) ≡ true)
      (all_map (inputs N) (λ a e f. there a.id (input a) a.assumed e ∙ same_input a (feeds N S μ a.id)) (input_there N sound.boxes_rise))
      (all_map (own_boxes N) outside (all_both _ _ (own_boxes N) (own_there N sound.boxes_rise) fits.notes))
    where
      there : (i : ℕ) (v : Box Route Demand) (r : Route) → box N i ≡ some v → matched 𝓐 r (box (fragment_of N S μ) i) ≡ matched 𝓐 r (piece N S μ v)
      there i v r e = ap (matched 𝓐 r) (box_piece N S μ sound.boxes_rise i ∙ ap (λ (o : Option (Box Route Demand)). bind o (piece N S μ)) e)

      same_input : (a : Input Route) (t : Bool) → matched 𝓐 a.assumed (cond t (some (input a)) none) ≡ true
      same_input a true = same_self a.assumed
      same_input a false = refl

      outside : (b : Own Route Demand)
          → (box N b.id ≡ some (own b)) × (leaves N S b.id ≡ true → (q : Route) → b.promise ≡ some q → note S b.id ≡ some q)
          → κ (number S b.id) ≡ false → feeds N S κ b.id ≡ true → (n : Route) → note S b.id ≡ some n
          → matched 𝓐 n (box (fragment_of N S μ) b.id) ≡ true
      outside b h out f n m = there b.id (own b) n h.0 ∙ go (μ (number S b.id)) (feeds N S μ b.id)
        where
          left : leaves N S b.id ≡ true
          left = feeds_leaves N S formed κ b.id (ap is_own_box h.0) out f

          go : (β t : Bool) → matched 𝓐 n (cond β (some (own (promising_own N S b))) (cond t (map (assuming b) (note S b.id)) none)) ≡ true
          go true t = ap (λ (p : Option Route). promises 𝓐 p n) (promised_note n b.promise (note S b.id) (leaves N S b.id) left m (h.1 left))
              ∙ same_self n
          go false true = ap (λ (o : Option Route). matched 𝓐 n (map (assuming b) o)) m ∙ same_self n
          go false false = refl

  -- 23: a fragment has the network's policies
  same_table : (κ μ : ℕ → Bool) → (fragment_of N S κ).policies ≡ (fragment_of N S μ).policies
  unfolding fragment_of
  same_table κ μ = refl

  pub fragments_fit : (κ μ : ℕ → Bool) → ((n : ℕ) → κ n ≡ true → μ n ≡ false) → Fitting 𝓐 B (fragment_of N S κ) (fragment_of N S μ)
  fragments_fit κ μ apart =
      let less = fragment_less N S (λ (n : ℕ). κ n || μ n) in
      let whole = joining_fragments N S κ μ sound.boxes_rise sound.wires_rise in
      record {
        own_once = owned_once_lem κ μ apart;
        first_matched = assumed_matched κ μ;
        second_matched = assumed_matched μ κ;
        one_table = same_table κ μ;
        boxes_within = rw whole (omega (arith, less.boxes, sound.boxes_within));
        wires_within = rw whole (omega (arith, less.wires, sound.wires_within));
      }

  module _ (telling : Telling 𝓐) where
    pub join_fragments : (κ μ : ℕ → Bool) → ((n : ℕ) → κ n ≡ true → μ n ≡ false)
        → join 𝓐 telling B (fragment_of N S κ) (fragment_of N S μ) ≡ given (fragment_of N S (λ (n : ℕ). κ n || μ n))
    join_fragments κ μ apart =
        fitting_joined 𝓐 telling B (fragment_of N S κ) (fragment_of N S μ) (pieces_rise N S κ sound.boxes_rise) (fragments_fit κ μ apart)
        ∙ ap given (joining_fragments N S κ μ sound.boxes_rise sound.wires_rise)

    pub parts_joined : {X : Type 0} (plan : Plan X) → Distinct (numbers plan) → All (λ (k : ℕ). any (numbered N S k) (own_boxes N) ≡ true) (numbers plan)
        → join_parts 𝓐 telling B N S plan ≡ given (fragment_of N S (among (numbers plan)))
    parts_joined (part k x) once there =
        cut_answer_lem 𝓐 N S fits k
        ∙ rw there.0 (ap (λ (κ : ℕ → Bool). given (fragment_of N S κ)) (fun_ext (λ n. sym (or-false (only k n)))))
    parts_joined (both l r x) once there =
        let h = halves N S l r x once there in
        two_given (join_parts 𝓐 telling B N S l) (join_parts 𝓐 telling B N S r) (fragment_of N S (among (numbers l))) (fragment_of N S (among (numbers r)))
        (parts_joined l h.first_once h.first_there)
        (parts_joined r h.second_once h.second_there)
        ∙ join_fragments (among (numbers l)) (among (numbers r)) h.apart
        ∙ ap (λ (κ : ℕ → Bool). given (fragment_of N S κ)) (fun_ext (λ n. sym (any_append (λ (k : ℕ). only k n) (numbers l) (numbers r))))
      where
        two_given : (a c : Answer (NetworkOver 𝓐)) (F G : NetworkOver 𝓐) → a ≡ given F → c ≡ given G
            → and_then a (λ (H : NetworkOver 𝓐). and_then c (λ (K : NetworkOver 𝓐). join 𝓐 telling B H K)) ≡ join 𝓐 telling B F G
        two_given a c F G p q = rw (p, q) refl

-- an own box is in what a plan gives: a plan has a number, and each is some own box's
pub some_among : {R P D : Type 0} (N : Network R P D) (S : Sheet R) {X : Type 0} (plan : Plan X)
    → All (λ (k : ℕ). any (numbered N S k) (own_boxes N) ≡ true) (numbers plan)
    → any (λ (b : Own R D). among (numbers plan) (number S b.id)) (own_boxes N) ≡ true
some_among N S (part k x) there = any_mono _ _ (own_boxes N) (all_of (own_boxes N) (λ b e. or_i_l (numbered N S k b) false e)) there.0
some_among {R} {P} {D} N S (both l r x) there = any_mono _ _ (own_boxes N)
    (all_of (own_boxes N) (λ b e. any_append (λ (k : ℕ). only k (number S b.id)) (numbers l) (numbers r)
    ∙ or_i_l (among (numbers l) (number S b.id)) (among (numbers r) (number S b.id)) e))
    (some_among N S l (append_all _ (numbers l) (numbers r) there).0)

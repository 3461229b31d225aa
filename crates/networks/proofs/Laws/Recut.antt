-- Three sheets X, Y and Z, of which the third keeps two boxes together exactly where both others do: cutting by X and then by Y is
-- cutting by Z.
--     meet                        the numbers of two own boxes
--     first_fits, second_fits     where Z fits the network, X fits it, and Y fits the fragments by X
--     recut                       the fragments are equal
--     both_numbered               the own boxes that are in both
use mathlib.Core.Path.{◌≡◌, refl, sym, ap, ap₂, ◌∙◌}
use mathlib.Core.Bool.{Bool, true, false, cond, not, ◌&&◌, ◌||◌, false≢true}
use mathlib.Core.Option.{Option, none, some, map, bind, none-ne-some}
use mathlib.Core.List.{filter_map, filter_map-filter_map}
use Prim.Native.Nat.{ℕ}
use lib.Dec.{eqb}
use borrow.Author.Tests.{eqb-true, eq-eqb}
use Rattle.lists.proofs.Test.{and_l, and_r, and_i, same_test}
use Rattle.lists.specs.All.{All, any}
use Rattle.lists.proofs.All.{all_map, all_both, any_congr, any_mono, any_or}
use Rattle.lists.specs.Filter.{filter}
use Rattle.lists.proofs.Filter.{filter_filter, filter_congr, any_filter, any_mapped, filter_map_congr}
use Rattle.lists.proofs.Sorted.{find_self}
use Rattle.networks.specs.Network.{Own, Box, own, input, Wire, Network, box_id, is_own_box, own_boxes, owns}
use Rattle.networks.specs.Sheets.{Sheet, number, note}
use Rattle.lists.specs.Answer.{is_some}
use Rattle.networks.specs.Cut.{only, promised, assuming, leaves, feeds, promising_own, piece, fragment_of, fragment, numbered, Third}
use Rattle.networks.proofs.Laws.Boxes.{own_there, own_fact}
use Rattle.networks.proofs.Laws.Pieces.{own_boxes_fragment, own_kept}
use Rattle.networks.proofs.Laws.Formed.{Formed, leaves_own, owns_fragment, fragment_formed_lem}
use Rattle.networks.proofs.Laws.Cutting.{Fits}

-- tests
and_turn : (a b c : Bool) → a && (b && c) ≡ b && (a && c)
and_turn true b c = refl
and_turn false true c = refl
and_turn false false c = refl

-- a wire that leaves the meet leaves the first, or stays in the first and leaves the second
leave_meet : (f α β : Bool) → f && not (α && β) ≡ (f && not α) || (α && (f && not β))
leave_meet true true β = refl
leave_meet true false β = refl
leave_meet false true β = refl
leave_meet false false β = refl

leave_first : (f α β : Bool) → f && not α ≡ true → f && not (α && β) ≡ true
leave_first true false β e = refl
leave_first true true β e = absurd (false≢true e)
leave_first false α β e = e

leave_second : (s f α β : Bool) → s && (f && not β) ≡ true → f && not (α && β) ≡ true
leave_second true true true β e = e
leave_second true true false β e = refl
leave_second true false α β e = e
leave_second false f α β e = absurd (false≢true e)

feed_first : (f α β : Bool) → f && (α && β) ≡ true → f && α ≡ true
feed_first true true β e = refl
feed_first true false β e = e
feed_first false α β e = e

-- a note that was promised once is not promised again
pub twice_promised : {R : Type 0} (p n : Option R) (l m : Bool) → promised (promised p l n) m n ≡ promised p (l || m) n
twice_promised (some q) n l m = refl
twice_promised none none true true = refl
twice_promised none none true false = refl
twice_promised none (some n) true m = refl
twice_promised none n false m = refl

-- the own boxes of a fragment that have a number of another sheet
pub both_numbered : {R P D : Type 0} (N : Network R P D) (X Y : Sheet R) (x y : ℕ)
    → any (numbered (fragment N X x) Y y) (own_boxes (fragment N X x)) ≡ any (λ (b : Own R D). numbered N X x b && numbered N Y y b) (own_boxes N)
both_numbered N X Y x y =
    ap (any (numbered (fragment N X x) Y y)) (own_boxes_fragment N X (only x))
    ∙ any_mapped (numbered (fragment N X x) Y y) (promising_own N X) (filter (numbered N X x) (own_boxes N))
    ∙ any_filter (numbered N X x) (numbered N Y y) (own_boxes N)

module _ {R P D : Type 0} (N : Network R P D) (X Y Z : Sheet R) (formed : Formed N) (fits : Fits N Z) (third : Third X Y Z) where
  noted : (i : ℕ) → owns N i ≡ true → is_some (note Z i) ≡ true
  noted i = own_fact N (λ (j : ℕ). is_some (note Z j) ≡ true) i fits.entered

  pub meet : (u v : ℕ) → owns N u ≡ true → owns N v ≡ true
      → eqb (number Z u) (number Z v) ≡ eqb (number X u) (number X v) && eqb (number Y u) (number Y v)
  meet u v p q = same_test _ _
      (λ e. let f = (third.together u v (noted u p) (noted v q)).0 (eqb-true (number Z u) (number Z v) e) in and_i _ _ (eq-eqb _ _ f.0)
      (eq-eqb _ _ f.1))
      (λ e. eq-eqb _ _ ((third.together u v (noted u p) (noted v q)).1 (
        eqb-true (number X u) (number X v) (and_l (eqb (number X u) (number X v)) (eqb (number Y u) (number Y v)) e),
        eqb-true (number Y u) (number Y v) (and_r (eqb (number X u) (number X v)) (eqb (number Y u) (number Y v)) e),
      )))

  -- own boxes with what is known of each
  own_all : (Q : Own R D → Type 0) → All (λ (b : Own R D). owns N b.id ≡ true → Q b) (own_boxes N) → All Q (own_boxes N)
  own_all Q h = all_map (own_boxes N) (λ b f. f.1 (ap is_own_box f.0)) (all_both _ _ (own_boxes N) (own_there N formed.rise) h)

  first_leaves : (i : ℕ) → owns N i ≡ true → leaves N X i ≡ true → leaves N Z i ≡ true
  first_leaves i t = rw (leaves_own N X formed i t, leaves_own N Z formed i t) (any_mono _ _ N.wires
      (all_map N.wires (λ w h e. rw (meet w.to i h.to_own t)
      (leave_first (eqb w.from i) (eqb (number X w.to) (number X i)) (eqb (number Y w.to) (number Y i)) e)) formed.joined))

  pub first_fits : Fits N X
  first_fits = record {
    entered = all_map (own_boxes N) (λ b e. rw (third.first_notes b.id) e) fits.entered;
    notes = own_all _ (all_map (own_boxes N) (λ b f t l q e. third.first_notes b.id ∙ f (first_leaves b.id t l) q e) fits.notes);
  }

  module _ (x : ℕ) where
    abbrev inner : Network R P D
    inner = fragment N X x

    pub inner_formed : Formed inner
    inner_formed = fragment_formed_lem N X formed (only x) first_fits.entered

    inner_owns : (i : ℕ) → owns N i ≡ true → eqb (number X i) x ≡ true → owns inner i ≡ true
    inner_owns i t e = owns_fragment N X formed (only x) i t ∙ e

    -- the wires that leave an own box of the fragment by the second sheet
    inner_leaves : (i : ℕ) → owns N i ≡ true → eqb (number X i) x ≡ true
        → leaves inner Y i ≡ any (λ (w : Wire). eqb (number X w.to) x && (eqb w.from i && not (eqb (number Y w.to) (number Y i)))) N.wires
    unfolding fragment_of
    inner_leaves i t e =
        leaves_own inner Y inner_formed i (inner_owns i t e)
        ∙ any_filter (λ (w : Wire). eqb (number X w.to) x) (λ (w : Wire). eqb w.from i && not (eqb (number Y w.to) (number Y i))) N.wires

    second_leaves : (i : ℕ) → owns N i ≡ true → eqb (number X i) x ≡ true → leaves inner Y i ≡ true → leaves N Z i ≡ true
    second_leaves i t e = rw (inner_leaves i t e, leaves_own N Z formed i t) (any_mono _ _ N.wires
        (all_map N.wires (λ w h f. rw (meet w.to i h.to_own t)
        (leave_second (eqb (number X w.to) x) (eqb w.from i) (eqb (number X w.to) (number X i))
        (eqb (number Y w.to) (number Y i)) f)) formed.joined))

    pub second_fits : Fits inner Y
    second_fits = record {
      entered = own_kept N X (only x) _ (all_map (own_boxes N) (λ b f t. rw (third.second_notes b.id) f) fits.entered);
      notes = own_kept N X (only x) _ (own_all _ (all_map (own_boxes N) at fits.notes));
    }
      where
        promise : (i : ℕ) (p : Option R) (l : Bool) → ((q : R) → p ≡ some q → note Z i ≡ some q) → (q : R) → promised p l (note X i) ≡ some q
            → note Y i ≡ some q
        promise i (some r) l f q e = third.second_notes i ∙ f q e
        promise i none true f q e = third.second_notes i ∙ sym (third.first_notes i) ∙ e
        promise i none false f q e = absurd (none-ne-some _ e)

        at : (b : Own R D) → (leaves N Z b.id ≡ true → (q : R) → b.promise ≡ some q → note Z b.id ≡ some q)
            → owns N b.id ≡ true → eqb (number X b.id) x ≡ true → leaves inner Y b.id ≡ true
            → (q : R) → promised b.promise (leaves N X b.id) (note X b.id) ≡ some q → note Y b.id ≡ some q
        at b f t e l = promise b.id b.promise (leaves N X b.id) (f (second_leaves b.id t e l))

    module _ (y z : ℕ) (meets : (i : ℕ) → owns N i ≡ true → eqb (number Z i) z ≡ eqb (number X i) x && eqb (number Y i) y) where
      wire_meets : All (λ (w : Wire). eqb (number Z w.to) z ≡ eqb (number X w.to) x && eqb (number Y w.to) y) N.wires
      wire_meets = all_map N.wires (λ w h. meets w.to h.to_own) formed.joined

      same_feeds : (i : ℕ) → feeds inner Y (only y) i ≡ feeds N Z (only z) i
      unfolding feeds fragment_of
      same_feeds i =
          any_filter (λ (w : Wire). only x (number X w.to)) (λ (w : Wire). eqb w.from i && only y (number Y w.to)) N.wires
          ∙ any_congr _ _ N.wires (all_map N.wires
          (λ w h. and_turn (only x (number X w.to)) (eqb w.from i) (only y (number Y w.to))
          ∙ ap (◌&&◌ (eqb w.from i)) (sym h)) wire_meets)

      first_feeds : (i : ℕ) → feeds N Z (only z) i ≡ true → feeds N X (only x) i ≡ true
      unfolding feeds
      first_feeds i = any_mono _ _ N.wires (all_map N.wires
          (λ w h e. feed_first (eqb w.from i) (only x (number X w.to)) (only y (number Y w.to)) (rw h at e)) wire_meets)

      same_leaves : (i : ℕ) → owns N i ≡ true → only x (number X i) ≡ true → leaves N Z i ≡ leaves N X i || leaves inner Y i
      same_leaves i t e =
          let q : number X i ≡ x = eqb-true (number X i) x e in
          leaves_own N Z formed i t
          ∙ any_congr _ _ N.wires (all_map N.wires (λ w h. at w q (meet w.to i h.to_own t)) formed.joined)
          ∙ sym (any_or (λ (w : Wire). eqb w.from i && not (eqb (number X w.to) (number X i)))
          (λ (w : Wire). eqb (number X w.to) x && (eqb w.from i && not (eqb (number Y w.to) (number Y i)))) N.wires)
          ∙ ap₂ ◌||◌ (sym (leaves_own N X formed i t)) (sym (inner_leaves i t e))
        where
          at : (w : Wire) → number X i ≡ x → eqb (number Z w.to) (number Z i) ≡ eqb (number X w.to) (number X i) && eqb (number Y w.to)
              (number Y i)
              → eqb w.from i && not (eqb (number Z w.to) (number Z i))
              ≡ (eqb w.from i && not (eqb (number X w.to) (number X i))) ||
              (eqb (number X w.to) x && (eqb w.from i && not (eqb (number Y w.to) (number Y i))))
          at w q h = rw (h, ← q) (leave_meet (eqb w.from i) (eqb (number X w.to) (number X i)) (eqb (number Y w.to) (number Y i)))

      -- an input, of the network or of the first fragment: it stays where it feeds the fragment
      same_input : (i : ℕ) (r : R) → bind {A = Box R D} (cond (feeds N X (only x) i) (some (input (record { id = i; assumed = r }))) none)
          (piece inner Y (only y))
          ≡ cond (feeds N Z (only z) i) (some (input (record { id = i; assumed = r }))) none
      unfolding bind
      same_input i r = go (feeds N X (only x) i) (feeds N Z (only z) i) (first_feeds i) (same_feeds i)
        where
          go : (s t : Bool) → (t ≡ true → s ≡ true) → feeds inner Y (only y) i ≡ t
              → bind {A = Box R D} (cond s (some (input (record { id = i; assumed = r }))) none) (piece inner Y (only y)) ≡ cond t
              (some (input (record { id = i; assumed = r }))) none
          go true t f q = rw q
          go false true f q = absurd (false≢true (f refl))
          go false false f q = refl

      same_box : (v : Box R D) → (is_own_box (some v) ≡ true → owns N (box_id v) ≡ true)
          → bind (piece N X (only x) v) (piece inner Y (only y)) ≡ piece N Z (only z) v
      unfolding bind
      same_box (input a) f = same_input a.id a.assumed
      same_box (own b) f = go (only x (number X b.id)) refl (only y (number Y b.id)) refl
        where
          t : owns N b.id ≡ true
          t = f refl

          assumed : (n : Option R) → bind (cond (feeds N X (only x) b.id) (map (assuming b) n) none) (piece inner Y (only y)) ≡ cond
              (feeds N Z (only z) b.id) (map (assuming b) n) none
          assumed (some n) = same_input b.id n
          assumed none = nothing (feeds N X (only x) b.id) (feeds N Z (only z) b.id)
            where
              nothing : (s u : Bool) → bind {A = Box R D} (cond s none none) (piece inner Y (only y)) ≡ cond u none none
              nothing true true = refl
              nothing true false = refl
              nothing false true = refl
              nothing false false = refl

          go : (α : Bool) → only x (number X b.id) ≡ α → (β : Bool) → only y (number Y b.id) ≡ β
              → bind (piece N X (only x) (own b)) (piece inner Y (only y)) ≡ piece N Z (only z) (own b)
          go true p true q = rw (meets b.id t, p, q)
              (ap (λ (o : Option R). some (own (record { id = b.id; initial = b.initial; promise = o; demand = b.demand })))
              (rw (third.first_notes b.id, third.second_notes b.id)
              (twice_promised b.promise (note Z b.id) (leaves N X b.id) (leaves inner Y b.id))
              ∙ ap (λ (l : Bool). promised b.promise l (note Z b.id)) (sym (same_leaves b.id t p))))
          go true p false q = rw (meets b.id t, p, q, third.second_notes b.id, same_feeds b.id) refl
          go false p β q = rw (meets b.id t, p, third.first_notes b.id) (assumed (note Z b.id))

      pub recut : fragment inner Y y ≡ fragment N Z z
      unfolding fragment_of
      recut = λ i. record {
        policies = N.policies;
        boxes = same_boxes i;
        wires = same_wires i;
      }
        where
          same_boxes : filter_map (piece inner Y (only y)) (filter_map (piece N X (only x)) N.boxes) ≡ filter_map (piece N Z (only z)) N.boxes
          same_boxes = filter_map-filter_map (piece N X (only x)) (piece inner Y (only y)) N.boxes
              ∙ filter_map_congr _ _ N.boxes (all_map N.boxes (λ v e. same_box v (λ o. ap is_own_box e ∙ o))
              (find_self box_id 0 N.boxes formed.rise))

          same_wires : filter (λ (w : Wire). only y (number Y w.to)) (filter (λ (w : Wire). only x (number X w.to)) N.wires) ≡ filter
              (λ (w : Wire). only z (number Z w.to)) N.wires
          same_wires = filter_filter (λ (w : Wire). only x (number X w.to)) (λ (w : Wire). only y (number Y w.to)) N.wires
              ∙ sym (filter_congr _ _ N.wires wire_meets)

-- Demand 3, second half. X and Y are two sheets with the same boxes and notes, and Z is a third that keeps two boxes together exactly
-- where both do. Where Z cuts a sound network, cutting by X and the fragment by Y gives Z's fragment of those boxes, or is refused with
-- 18 where no own box is in both; Y before X gives the same; with one sheet for all three a fragment is cut into itself. Buffers do not
-- come into it here.
use mathlib.Core.Path.{◌≡◌, refl, sym, ap, ◌∙◌, subst}
use mathlib.Core.Bool.{Bool, true, false, ◌&&◌}
use Prim.Native.Nat.{ℕ}
use lib.Dec.{eqb}
use borrow.Author.Tests.{eqb-true, eq-eqb}
use Rattle.lists.proofs.Test.{and_l, and_r, and_i}
use Rattle.lists.specs.All.{any}
use Rattle.lists.proofs.All.{any_found}
use Rattle.networks.specs.Algebra.{Algebra}
use Rattle.networks.specs.Network.{Own, NetworkOver, is_own_box, own_boxes, owns}
use Rattle.networks.specs.Sound.{Bounds, Sound}
use Rattle.networks.specs.Sheets.{Sheet, number}
use Rattle.lists.specs.Answer.{Answer, given, refused, and_then}
use Rattle.networks.specs.Cut.{fragment, numbered, cut, cut_twice, Cuts, Third}
use Rattle.networks.proofs.Laws.Boxes.{own_there, own_any}
use Rattle.networks.proofs.Laws.Formed.{Formed, sound_formed}
use Rattle.networks.proofs.Laws.Cutting.{Fits, cut_answer_lem, own_cut, cut_given, cuts_fits}
use Rattle.networks.proofs.Laws.Recut.{both_numbered, meet, first_fits, second_fits, recut}

-- X and Y may change places in all of this
pub swapped : {R : Type 0} (X Y Z : Sheet R) → Third X Y Z → Third Y X Z
swapped X Y Z h = record {
  first_notes = h.second_notes;
  second_notes = h.first_notes;
  together = λ u v p q. let f = h.together u v p q in (λ e. let z = f.0 e in (z.1, z.0), λ e. f.1 (e.1, e.0));
}

module _ (𝓐 : Algebra) (B : Bounds) (N : NetworkOver 𝓐) (X Y Z : Sheet 𝓐.Route)
    (sound : Sound B N) (third : Third X Y Z) (cuts : Cuts 𝓐 N Z) where
  open 𝓐 use {Route, Policy, Demand}

  formed : Formed N
  formed = sound_formed B N sound

  fits : Fits N Z
  fits = (cuts_fits 𝓐 N Z B sound).0 cuts

  -- by X and then by Y: for every own box, the fragments that it is in
  pub first_then_second : (w : ℕ) → owns N w ≡ true → cut_twice 𝓐 N X (number X w) Y (number Y w) ≡ cut 𝓐 N Z (number Z w)
  first_then_second w t =
      rw (
        own_cut 𝓐 N X (first_fits N X Y Z formed fits third) w t,
        cut_answer_lem 𝓐 (fragment N X (number X w)) Y (second_fits N X Y Z formed fits third (number X w)) (number Y w),
        both_numbered N X Y (number X w) (number Y w),
        own_any N (λ (i : ℕ). eqb (number X i) (number X w) && eqb (number Y i) (number Y w)) w t
            (and_i _ _ (eq-eqb (number X w) (number X w) refl) (eq-eqb (number Y w) (number Y w) refl)),
        own_cut 𝓐 N Z fits w t,
      )
      (ap given (recut N X Y Z formed fits third (number X w) (number Y w) (number Z w) (λ i s. meet N X Y Z formed fits third i w s t)))

  -- what is given is a fragment, and no refusal
  pub third_given : (w : ℕ) → owns N w ≡ true → cut 𝓐 N Z (number Z w) ≡ given (fragment N Z (number Z w))
  third_given = own_cut 𝓐 N Z fits

  -- no own box is in fragment x of X and in fragment y of Y
  pub apart_refused : (x y : ℕ) → ((w : ℕ) → owns N w ≡ true → number X w ≡ x → number Y w ≡ y → ⊥)
      → (place : ℕ) × (cut_twice 𝓐 N X x Y y ≡ refused 18 place)
  apart_refused x y apart = go (any (numbered N X x) (own_boxes N)) refl
    where
      none_both : (t : Bool) → any (λ (b : Own Route Demand). numbered N X x b && numbered N Y y b) (own_boxes N) ≡ t → t ≡ false
      none_both false q = refl
      none_both true q =
          let f = any_found (λ (b : Own Route Demand). numbered N X x b && numbered N Y y b) (own_boxes N) (own_there N formed.rise) q in
          let b = f.0 in
          absurd (apart b.id (ap is_own_box f.1)
          (eqb-true (number X b.id) x (and_l (numbered N X x b) (numbered N Y y b) f.2))
          (eqb-true (number Y b.id) y (and_r (numbered N X x b) (numbered N Y y b) f.2)))

      go : (t : Bool) → any (numbered N X x) (own_boxes N) ≡ t → (place : ℕ) × (cut_twice 𝓐 N X x Y y ≡ refused 18 place)
      go false q = (x, rw (cut_answer_lem 𝓐 N X (first_fits N X Y Z formed fits third) x, q) refl)
      go true q = (
        y,
        rw (
          cut_answer_lem 𝓐 N X (first_fits N X Y Z formed fits third) x,
          q,
          cut_answer_lem 𝓐 (fragment N X x) Y (second_fits N X Y Z formed fits third x) y,
          both_numbered N X Y x y,
          none_both (any (λ (b : Own Route Demand). numbered N X x b && numbered N Y y b) (own_boxes N)) refl,
        ) refl,
      )

-- by Y and then by X
pub second_then_first : (𝓐 : Algebra) (B : Bounds) (N : NetworkOver 𝓐) (X Y Z : Sheet 𝓐.Route)
    → Sound B N → Third X Y Z → Cuts 𝓐 N Z → (w : ℕ) → owns N w ≡ true
    → cut_twice 𝓐 N Y (number Y w) X (number X w) ≡ cut_twice 𝓐 N X (number X w) Y (number Y w)
second_then_first 𝓐 B N X Y Z sound third cuts w t =
    first_then_second 𝓐 B N Y X Z sound (swapped X Y Z third) cuts w t ∙ sym (first_then_second 𝓐 B N X Y Z sound third cuts w t)

-- A fragment cut again by its own sheet is itself: the sheet is the common refinement of itself with itself.
pub cut_again : (𝓐 : Algebra) (B : Bounds) (N : NetworkOver 𝓐) (S : Sheet 𝓐.Route) → Sound B N
    → (k : ℕ) (F : NetworkOver 𝓐) → cut 𝓐 N S k ≡ given F → cut 𝓐 F S k ≡ given F
cut_again 𝓐 B N S sound k F e =
    let c = cut_given 𝓐 N S k F e in
    let f = any_found (numbered N S k) (own_boxes N) (own_there N sound.boxes_rise) c.1 in
    let q : number S f.0.id ≡ k = eqb-true (number S f.0.id) k f.2 in
    sym (ap (λ (a : Answer (NetworkOver 𝓐)). and_then a (λ (G : NetworkOver 𝓐). cut 𝓐 G S k)) e)
    ∙ subst (λ (j : ℕ). cut_twice 𝓐 N S j S j ≡ cut 𝓐 N S j) q
    (first_then_second 𝓐 B N S S S sound itself ((cuts_fits 𝓐 N S B sound).1 c.0) f.0.id (ap is_own_box f.1))
    ∙ e
  where
    itself : Third S S S
    itself = record { first_notes = λ i. refl; second_notes = λ i. refl; together = λ u v p q. (λ e. (e, e), λ e. e.0) }

-- The cutter's answer, taken apart.
--     Fits                            what `Cuts` says, box by box
--     cut_answer_lem, own_cut, cut_given  the answers of a sheet that fits; what an answer that was given tells
--     cuts_fits                       a sheet cuts a sound network exactly where it fits
use mathlib.Core.Path.{◌≡◌, refl, sym, ap, ◌∙◌}
use mathlib.Core.Bool.{Bool, true, false, cond, not, ◌&&◌, false≢true}
use mathlib.Core.Logic.{◌↔◌}
use mathlib.Core.Option.{Option, none, some, none-ne-some, some-injective}
use mathlib.Core.List.{List, [], ◌∷◌}
use Prim.Native.Nat.{ℕ, ◌<◌}
use native.Mathlib.Omega.{arith}
use lib.Dec.{eqb}
use lib.ListN.{length}
use borrow.Author.Tests.{eq-eqb, not-false}
use Rattle.lists.proofs.Test.{or_i_l}
use Rattle.lists.specs.All.{All, any}
use Rattle.lists.proofs.All.{all_map, all_both}
use Rattle.networks.specs.Algebra.{Algebra}
use Rattle.networks.specs.Network.{Own, Network, own_boxes, owns}
use Rattle.networks.specs.Sound.{Bounds, Sound}
use Rattle.networks.specs.Sheets.{Sheet, number, note}
use Rattle.lists.specs.Answer.{given, refused, is_some, row}
use Rattle.networks.specs.Lowest.{lowest, Entered, unentered}
use Rattle.networks.specs.Cut.{leaves, fragment, numbered, off_note, clashes, cut, Cuts}
use Rattle.networks.proofs.Laws.Boxes.{own_any}
use Rattle.networks.proofs.Laws.Lowest.{lowest_none, none_lowest, entered_none, none_entered}
use Rattle.lists.proofs.Answer.{given_same, refused_given, refused_number, row_given}
use Rattle.lists.specs.Test.{first_applying}

-- Every own box has an entry, and a promise of a box that a cut wire leaves is its note.
pub record Fits {R P D : Type 0} (N : Network R P D) (S : Sheet R) : Type 0 where
  pub entered : Entered N (note S)
  pub notes : All (λ (b : Own R D). leaves N S b.id ≡ true → (q : R) → b.promise ≡ some q → note S b.id ≡ some q) (own_boxes N)

module _ (𝓐 : Algebra) where
  open 𝓐 use {Route, Policy, Demand, same, same_true, same_self}

  no_clash : (left : Bool) (p n : Option Route) → (left ≡ true → (q : Route) → p ≡ some q → n ≡ some q) → left && off_note 𝓐 p n ≡ false
  no_clash false p n f = refl
  no_clash true none n f = refl
  no_clash true (some q) none f = absurd (none-ne-some _ (f refl q refl))
  no_clash true (some q) (some n) f = rw (some-injective _ _ (f refl q refl)) (ap not (same_self q))

  clash_none : (left : Bool) (p n : Option Route) → is_some n ≡ true → left && off_note 𝓐 p n ≡ false → left ≡ true → (q : Route) → p ≡ some q
      → n ≡ some q
  clash_none false p n t e l q c = absurd (false≢true l)
  clash_none true none n t e l q c = absurd (none-ne-some _ c)
  clash_none true (some x) none t e l q c = absurd (false≢true t)
  clash_none true (some x) (some n) t e l q c = ap some (sym (same_true x n (not-false (same x n) e)) ∙ some-injective _ _ c)

  module _ (N : Network Route Policy Demand) (S : Sheet Route) where
    -- the row of refusal 19
    abbrev clashing : Option ℕ
    clashing = lowest (clashes 𝓐 N S) (own_boxes N)

    fits_none : Fits N S → clashing ≡ none
    fits_none h = none_lowest (clashes 𝓐 N S) (own_boxes N)
        (all_map (own_boxes N) (λ b f. no_clash (leaves N S b.id) b.promise (note S b.id) f) h.notes)

    none_fits : unentered N (note S) ≡ none → clashing ≡ none → Fits N S
    none_fits e c = record {
      entered = none_entered N (note S) e;
      notes = all_map (own_boxes N) (λ b h. clash_none (leaves N S b.id) b.promise (note S b.id) h.0 h.1)
          (both (none_entered N (note S) e) (lowest_none (clashes 𝓐 N S) (own_boxes N) c));
    }
      where
        both : Entered N (note S) → All (λ (b : Own Route Demand). clashes 𝓐 N S b ≡ false) (own_boxes N)
            → All (λ (b : Own Route Demand). (is_some (note S b.id) ≡ true) × (clashes 𝓐 N S b ≡ false)) (own_boxes N)
        both = all_both _ _ (own_boxes N)

    -- a sheet that fits leaves refusal 18
    pub cut_answer_lem : Fits N S → (k : ℕ) → cut 𝓐 N S k ≡ first_applying (row 18 (cond (any (numbered N S k) (own_boxes N)) none (some k)) ∷ []) (given (fragment N S k))
    unfolding cut
    cut_answer_lem h k = rw (entered_none N (note S) h.entered, fits_none h) refl

    -- and so the fragment of every own box is given
    pub own_cut : Fits N S → (w : ℕ) → owns N w ≡ true → cut 𝓐 N S (number S w) ≡ given (fragment N S (number S w))
    own_cut h w t = cut_answer_lem h (number S w) ∙ rw (own_any N (λ (i : ℕ). eqb (number S i) (number S w)) w t
        (eq-eqb (number S w) (number S w) refl)) refl

    pub cut_given : (k : ℕ) (F : Network Route Policy Demand) → cut 𝓐 N S k ≡ given F
        → Fits N S × (any (numbered N S k) (own_boxes N) ≡ true) × (fragment N S k ≡ F)
    unfolding cut
    cut_given k F e =
        let a = row_given 17 (unentered N (note S)) _ F e in
        let b = row_given 18 (cond (any (numbered N S k) (own_boxes N)) none (some k)) _ F a.1 in
        let c = row_given 19 clashing _ F b.1 in
        (none_fits a.0 c.0, some_numbered (any (numbered N S k) (own_boxes N)) b.0, given_same c.1)
      where
        some_numbered : (t : Bool) → cond t none (some k) ≡ none → t ≡ true
        some_numbered true q = refl
        some_numbered false q = absurd (none-ne-some _ (sym q))

    -- some own box has the number k, so that 18 does not stand before 19
    own_numbered : (bs : List (Own Route Demand)) → 0 < length bs → (k : ℕ) × (any (numbered N S k) bs ≡ true)
    own_numbered [] l = absurd (omega arith)
    own_numbered (b ∷ bs) l = (
      number S b.id,
      or_i_l _ (any (numbered N S (number S b.id)) bs)
          (eq-eqb (number S b.id) (number S b.id) refl),
    )

    module _ (cuts : Cuts 𝓐 N S) where
      no_17 : unentered N (note S) ≡ none
      unfolding cut
      no_17 = go (unentered N (note S)) refl
        where
          go : (o : Option ℕ) → unentered N (note S) ≡ o → o ≡ none
          go none q = refl
          go (some i) q = absurd (let z : ◌≡◌ {A = ℕ} 17 18 = cuts 0 17 i (rw q refl) in omega arith)

      no_19 : 0 < length (own_boxes N) → clashing ≡ none
      unfolding cut
      no_19 l = go clashing refl
        where
          go : (o : Option ℕ) → clashing ≡ o → o ≡ none
          go none q = refl
          go (some i) q = let f = own_numbered (own_boxes N) l in absurd
              (let z : ◌≡◌ {A = ℕ} 19 18 = cuts f.0 19 i (rw (no_17, f.1, q) refl) in omega arith)

    pub cuts_fits : (B : Bounds) → Sound B N → Cuts 𝓐 N S ↔ Fits N S
    cuts_fits B sound = (
      λ h. none_fits (no_17 h) (no_19 h sound.some_own),
      λ h k at place e. only_18 k (any (numbered N S k) (own_boxes N)) at place (sym (cut_answer_lem h k) ∙ e),
    )
      where
        only_18 : (k : ℕ) (t : Bool) (at place : ℕ) → first_applying (row 18 (cond t none (some k)) ∷ []) (given (fragment N S k)) ≡ refused at place → at ≡ 18
        only_18 k true at place e = absurd (refused_given (sym e))
        only_18 k false at place e = sym (refused_number e)

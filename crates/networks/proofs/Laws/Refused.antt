-- What a refusal of judging or cutting tells.
--     lowest_own                   the lowest own box that meets a test
--     judge_17, cut_17_18_19       the refusals
use mathlib.Core.Path.{◌≡◌, refl, sym, ap, ◌∙◌}
use mathlib.Core.Bool.{Bool, true, false, cond, not, ◌&&◌, false≢true}
use mathlib.Core.Logic.{◌⊎◌, inl, inr, ⊎_elim}
use mathlib.Core.Option.{Option, none, some, none-ne-some, some-injective}
use Prim.Native.Nat.{ℕ}
use borrow.Author.Tests.{not-true, not-false, eq-eqb}
use Rattle.lists.proofs.Test.{and_l, and_r}
use Rattle.lists.proofs.All.{all_map}
use Rattle.lists.specs.All.{any}
use Rattle.lists.specs.Sorted.{Rises}
use Rattle.networks.specs.Algebra.{Algebra}
use Rattle.networks.specs.Network.{Own, Network, NetworkOver, box_id, own_boxes, owns}
use Rattle.networks.specs.Sheets.{Sheet, RouteList, number, note, listed}
use Rattle.lists.specs.Answer.{given, refused, is_some, row}
use Rattle.networks.specs.Lowest.{lowest, LowestOwn, Entered, unentered}
use Rattle.networks.specs.Judge.{verdict_from, judge}
use Rattle.networks.specs.Cut.{leaves, only, fragment, numbered, off_note, clashes, Clashes, cut}
use Rattle.networks.proofs.Laws.Boxes.{own_rise, own_any}
use Rattle.networks.proofs.Laws.Named.{lowest_some, named_box}
use Rattle.lists.proofs.Answer.{refused_given, is_some_false, row_refused}
use Rattle.networks.proofs.Laws.Lowest.{none_entered}
use Rattle.lists.specs.Test.{first_applying}
use mathlib.Core.List.{◌∷◌, []}

-- the lowest own box that meets a test, where the test is true exactly of what Q holds of
lowest_own : {R P D : Type 0} (N : Network R P D) (test : Own R D → Bool) (Q : Own R D → Type 0) → Rises box_id 0 N.boxes
    → ((b : Own R D) → test b ≡ true → Q b) → ((b : Own R D) → test b ≡ false → Q b → ⊥)
    → (i : ℕ) → lowest test (own_boxes N) ≡ some i → LowestOwn N Q i
lowest_own N test Q rise holds fails i e =
    let f = lowest_some test i 0 (own_boxes N) (own_rise N rise) e in
    ((f.named, named_box N rise i 0 f, holds f.named f.hit), all_map (own_boxes N) (λ d h l. fails d (h l)) f.below)

lowest_unentered : {R P D : Type 0} (N : Network R P D) (entry : ℕ → Option R) → Rises box_id 0 N.boxes → (i : ℕ) → unentered N entry ≡ some i
    → LowestOwn N (λ (b : Own R D). entry b.id ≡ none) i
lowest_unentered {R} {P} {D} N entry rise = lowest_own N (λ (b : Own R D). not (is_some (entry b.id))) (λ (b : Own R D). entry b.id ≡ none) rise
    (λ b t. is_some_false (entry b.id) (not-true (is_some (entry b.id)) t))
    (λ b t e. false≢true (sym (ap is_some e) ∙ not-false (is_some (entry b.id)) t))

module _ (𝓐 : Algebra) (N : NetworkOver 𝓐) (rise : Rises box_id 0 N.boxes) where
  open 𝓐 use {Route, Demand, same, same_true, same_self}

  pub judge_17 : (L : RouteList Route) (n place : ℕ) → judge 𝓐 N L ≡ refused n place
      → (n ≡ 17) × LowestOwn N (λ (b : Own Route Demand). listed L b.id ≡ none) place
  unfolding judge
  judge_17 L n place e = ⊎_elim (λ f. (f.0, lowest_unentered N (listed L) rise place f.1)) (λ f. absurd (refused_given (sym f.1)))
      (row_refused 17 (unentered N (listed L)) (given (verdict_from 𝓐 N L 0 (own_boxes N))) n place e)

  off_true : (p n : Option Route) → off_note 𝓐 p n ≡ true → (q : Route) × (p ≡ some q) × (n ≡ some q → ⊥)
  off_true none n t = absurd (false≢true t)
  off_true (some q) none t = (q, refl, λ e. none-ne-some _ e)
  off_true (some q) (some n) t = (q, refl, λ e. false≢true (sym (not-true (same q n) t) ∙ rw (some-injective _ _ e) (same_self q)))

  off_false : (p n : Option Route) → off_note 𝓐 p n ≡ false → (q : Route) → p ≡ some q → (n ≡ some q → ⊥) → ⊥
  off_false none n t q e d = none-ne-some _ e
  off_false (some y) none t q e d = false≢true (sym t)
  off_false (some y) (some n) t q e d = d (ap some (sym (same_true y n (not-false (same y n) t)) ∙ some-injective _ _ e))

  lowest_clash : (S : Sheet Route) (i : ℕ) → lowest (clashes 𝓐 N S) (own_boxes N) ≡ some i → LowestOwn N (Clashes 𝓐 N S) i
  lowest_clash S = lowest_own N (clashes 𝓐 N S) (Clashes 𝓐 N S) rise
      (λ b t. (
        and_l (leaves N S b.id) (off_note 𝓐 b.promise (note S b.id)) t,
        off_true b.promise (note S b.id)
            (and_r (leaves N S b.id) (off_note 𝓐 b.promise (note S b.id)) t),
      ))
      (λ b t c. off_false b.promise (note S b.id) (stays (leaves N S b.id) (off_note 𝓐 b.promise (note S b.id)) c.0 t) c.1.0
      c.1.1 c.1.2)
    where
      stays : (l o : Bool) → l ≡ true → l && o ≡ false → o ≡ false
      stays true o e t = t
      stays false o e t = absurd (false≢true e)

  pub cut_17_18_19 : (S : Sheet Route) (k n place : ℕ) → cut 𝓐 N S k ≡ refused n place
      → ((n ≡ 17) × LowestOwn N (λ (b : Own Route Demand). note S b.id ≡ none) place)
      ⊎ (((n ≡ 18) × (place ≡ k) × ((w : ℕ) → owns N w ≡ true → number S w ≡ k → ⊥) × Entered N (note S))
      ⊎ ((n ≡ 19) × LowestOwn N (Clashes 𝓐 N S) place × Entered N (note S)))
  unfolding cut
  cut_17_18_19 S k n place e = ⊎_elim (λ f. inl (f.0, lowest_unentered N (note S) rise place f.1)) (λ f. inr (rows f))
      (row_refused 17 (unentered N (note S)) _ n place e)
    where
      empty : (t : Bool) → any (numbered N S k) (own_boxes N) ≡ t → cond t none (some k) ≡ some place
          → (place ≡ k) × ((w : ℕ) → owns N w ≡ true → number S w ≡ k → ⊥)
      empty true q z = absurd (none-ne-some _ z)
      empty false q z = (sym (some-injective _ _ z), λ w o m. false≢true (sym q ∙ own_any N (λ (i : ℕ). only k (number S i)) w o (eq-eqb (number S w) k m)))

      rows : (unentered N (note S) ≡ none) × (first_applying (row 18 (cond (any (numbered N S k) (own_boxes N)) none (some k)) ∷ row 19 (lowest (clashes 𝓐 N S) (own_boxes N)) ∷ [])
          (given (fragment N S k)) ≡ refused n place)
          → ((n ≡ 18) × (place ≡ k) × ((w : ℕ) → owns N w ≡ true → number S w ≡ k → ⊥) × Entered N (note S))
          ⊎ ((n ≡ 19) × LowestOwn N (Clashes 𝓐 N S) place × Entered N (note S))
      rows f = ⊎_elim
          (λ g. let h = empty (any (numbered N S k) (own_boxes N)) refl g.1 in inl (g.0, h.0, h.1, none_entered N (note S) f.0))
          (λ g. ⊎_elim (λ c. inr (c.0, lowest_clash S place c.1, none_entered N (note S) f.0)) (λ c. absurd (refused_given (sym c.1)))
          (row_refused 19 (lowest (clashes 𝓐 N S) (own_boxes N)) (given (fragment N S k)) n place g.1))
          (row_refused 18 (cond (any (numbered N S k) (own_boxes N)) none (some k))
          (first_applying (row 19 (lowest (clashes 𝓐 N S) (own_boxes N)) ∷ []) (given (fragment N S k))) n place f.1)

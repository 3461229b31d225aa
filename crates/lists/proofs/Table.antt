-- Rows as a list and rows by their place say the same: the bridge between theorems, which speak of lists, and loops, which speak of places.
-- keys i is the key of the i-th row.
--     find_rows          the row with a key, and where it stands
--     rises_rows         keys that rise
--     any_rows           a test that some row meets
use mathlib.Core.Path.{◌≡◌, refl, sym, ap, ap₂, ◌∙◌}
use mathlib.Core.Bool.{Bool, true, false, cond, not, ◌&&◌, ◌||◌}
use mathlib.Core.Option.{Option, none, some}
use Prim.Native.Nat.{ℕ, zero, suc, ◌+◌, ◌≤◌, ◌<◌}
use native.Mathlib.Omega.{arith}
use lib.Dec.{eqb, ltb}
use borrow.Author.Tests.{lt-ltb, le-ltb, ltb-true, ltb-false}
use Rattle.lists.specs.All.{any}
use Rattle.lists.specs.First.{first_bad, every}
use Rattle.lists.proofs.First.{first_ext, every_ext, every_front}
use Rattle.lists.specs.Rising.{place, least}
use Rattle.lists.specs.Rows.{rows}
use Rattle.lists.specs.Sorted.{find, Rises}
use Rattle.lists.specs.Stride.{at}
use Rattle.lists.proofs.Stride.{at_zero, at_shift}

pub ltb_suc : (a b : ℕ) → ltb (suc a) (suc b) ≡ ltb a b
ltb_suc a b = go (ltb a b) refl
  where
    go : (t : Bool) → ltb a b ≡ t → ltb (suc a) (suc b) ≡ t
    go true e = let h = ltb-true a b e in lt-ltb (suc a) (suc b) (omega arith)
    go false e = let h = ltb-false a b e in le-ltb (suc a) (suc b) (omega arith)

module _ {A : Type 0} (key : A → ℕ) (value : ℕ → A) (width : ℕ) where
  abbrev pub keys : ℕ → ℕ → ℕ
  keys offset i = key (value (at offset width i))

  -- the row at a place, where the place is below n
  abbrev pub row_at : ℕ → ℕ → ℕ → Option A
  row_at offset n i = cond (ltb i n) (some (value (at offset width i))) none

  pub find_rows : (offset n x : ℕ) → find key x (rows value width offset n) ≡ row_at offset n (place (keys offset) x n)
  unfolding place first_bad
  find_rows offset zero x = refl
  find_rows offset (suc n) x =
      ap (λ (k : ℕ). cond (eqb (key (value k)) x) (some (value k)) (find key x (rows value width (offset + width) n))) (sym (at_zero offset width))
      ∙ go (eqb (keys offset 0) x) (find_rows (offset + width) n x)
    where
      there : ℕ
      there = first_bad (λ k. not (eqb (keys offset (suc k)) x)) n

      shifted : place (keys (offset + width)) x n ≡ there
      shifted = first_ext (λ k. not (eqb (keys (offset + width) k) x)) (λ k. not (eqb (keys offset (suc k)) x)) n
          (λ k l. ap (λ (o : ℕ). not (eqb (key (value o)) x)) (sym (at_shift offset width k)))

      go : (t : Bool) → find key x (rows value width (offset + width) n) ≡ row_at (offset + width) n (place (keys (offset + width)) x n)
          → cond t (some (value (at offset width 0))) (find key x (rows value width (offset + width) n)) ≡ row_at offset (suc n) (cond (not t) (suc there) 0)
      go true r = rw (lt-ltb 0 (suc n) (omega arith))
      go false r = r ∙ rw (shifted, ltb_suc there n, at_shift offset width there)

  shift : (offset i : ℕ) → keys (offset + width) i ≡ keys offset (suc i)
  shift offset i = ap (λ (o : ℕ). key (value o)) (sym (at_shift offset width i))

  start : (offset : ℕ) → key (value offset) ≡ keys offset 0
  start offset = ap (λ (o : ℕ). key (value o)) (sym (at_zero offset width))

  -- the first key is at least lo, and each is above the one before
  rises_from : (lo offset n : ℕ) → (0 < n → lo ≤ keys offset 0) → ((i : ℕ) → suc i < n → keys offset i < keys offset (suc i)) → Rises key lo (rows value width offset n)
  rises_from lo offset zero h g = tt
  rises_from lo offset (suc n) h g = (
    let first = h (omega arith) in rw (start offset) first,
    rises_from (suc (key (value offset))) (offset + width) n
        (λ l. rw (start offset, shift offset 0) (g 0 (omega arith)))
        (λ i l. rw (shift offset i, shift offset (suc i)) (g (suc i) (omega arith))),
  )

  from_rises : (lo offset n : ℕ) → Rises key lo (rows value width offset n) → (0 < n → lo ≤ keys offset 0) × ((i : ℕ) → suc i < n → keys offset i < keys offset (suc i))
  from_rises lo offset zero h = (λ l. absurd (omega arith), λ i l. absurd (omega arith))
  from_rises lo offset (suc n) h = (λ l. rw (← start offset) h.0, next (from_rises (suc (key (value offset))) (offset + width) n h.1))
    where
      next : (0 < n → suc (key (value offset)) ≤ keys (offset + width) 0) × ((i : ℕ) → suc i < n → keys (offset + width) i < keys (offset + width) (suc i))
          → (i : ℕ) → suc i < suc n → keys offset i < keys offset (suc i)
      next rest zero l = rw (← start offset, ← shift offset 0) (rest.0 (omega arith))
      next rest (suc i) l = rw (← shift offset i, ← shift offset (suc i)) (rest.1 i (omega arith))

  pub rises_rows : (offset n : ℕ) → ((i : ℕ) → i < n → least (keys offset) i ≤ keys offset i) → Rises key 0 (rows value width offset n)
  unfolding least
  rises_rows offset n h = rises_from 0 offset n (λ l. omega arith) (λ i l. let z = h (suc i) l in omega arith)

  pub rows_rise : (offset n : ℕ) → Rises key 0 (rows value width offset n) → (i : ℕ) → i < n → least (keys offset) i ≤ keys offset i
  unfolding least
  rows_rise offset n h zero l = omega arith
  rows_rise offset n h (suc i) l = let z = (from_rises 0 offset n h).1 i l in omega arith

-- some row meets a test
pub any_rows : {A : Type 0} (p : A → Bool) (value : ℕ → A) (width offset n : ℕ) → any p (rows value width offset n) ≡ not (every (λ i. not (p (value (at offset width i)))) n)
unfolding every first_bad
any_rows p value width offset zero = refl
any_rows p value width offset (suc n) =
    ap₂ (λ (o : ℕ) (t : Bool). p (value o) || t) (sym (at_zero offset width)) (any_rows p value width (offset + width) n)
    ∙ ap (λ (t : Bool). p (value (at offset width 0)) || not t)
    (every_ext (λ i. not (p (value (at (offset + width) width i)))) (λ i. not (p (value (at offset width (suc i))))) n (λ k l. ap (λ (o : ℕ). not (p (value o))) (sym (at_shift offset width k))))
    ∙ turn (p (value (at offset width 0))) (every (λ i. not (p (value (at offset width (suc i))))) n)
    ∙ ap not (sym (every_front (λ i. not (p (value (at offset width i)))) n))
  where
    turn : (s t : Bool) → s || not t ≡ not (not s && t)
    turn true t = refl
    turn false t = refl

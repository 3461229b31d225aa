-- The first failing place.
--     first_none, first_here                   its value, from what is known of the places
--     first_all, first_fails, first_before     what its value tells
--     every_..                                 whether it fails nowhere, and where it does not
--     Passed, passed_..                        what a loop knows at place i, and its two exits
use Prim.Native.Nat.{ℕ, zero, suc, ◌+◌, ◌<◌, ◌≤◌, zero-le, suc-le-suc}
use native.Mathlib.Nat.{le_of_suc-le-suc, not-suc-le-zero}
use native.Mathlib.Omega.{arith}
use mathlib.Core.Bool.{Bool, true, false, cond, ◌&&◌, false≢true}
use mathlib.Core.Logic.{⊎_elim}
use mathlib.Core.Path.{◌≡◌, refl, ap, sym, ◌∙◌}
use lib.Dec.{eqb}
use borrow.Author.Count.{below_more}
use borrow.Author.Tests.{eq-eqb, ne_eqb, eqb-true, eqb-false}
use Rattle.lists.proofs.Test.{and_l, and_r, and_i, same_test, le_or_lt}
use Rattle.lists.specs.First.{every, first_bad}

pub first_none : (ok : ℕ → Bool) (n : ℕ) → ((k : ℕ) → k < n → ok k ≡ true) → first_bad ok n ≡ n
unfolding first_bad
first_none ok zero h = refl
first_none ok (suc n) h = rw (h 0 (suc-le-suc zero-le)) (ap suc (first_none (λ k. ok (suc k)) n (λ k l. h (suc k) (suc-le-suc l))))

pub first_here : (ok : ℕ → Bool) (n i : ℕ) → i < n → ((k : ℕ) → k < i → ok k ≡ true) → ok i ≡ false → first_bad ok n ≡ i
unfolding first_bad
first_here ok zero i l h e = absurd (not-suc-le-zero l)
first_here ok (suc n) zero l h e = rw e
first_here ok (suc n) (suc i) l h e =
    rw (h 0 (suc-le-suc zero-le))
    (ap suc (first_here (λ k. ok (suc k)) n i (le_of_suc-le-suc l) (λ k m. h (suc k) (suc-le-suc m)) e))

-- it is at most n, and every place before it passes
pub first_le : (ok : ℕ → Bool) (n : ℕ) → first_bad ok n ≤ n
unfolding first_bad
first_le ok zero = zero-le
first_le ok (suc n) = go (ok 0) (first_le (λ k. ok (suc k)) n)
  where
    go : (t : Bool) → first_bad (λ k. ok (suc k)) n ≤ n → cond t (suc (first_bad (λ k. ok (suc k)) n)) 0 ≤ suc n
    go true h = suc-le-suc h
    go false h = zero-le

pub first_all : (ok : ℕ → Bool) (n k : ℕ) → k < first_bad ok n → ok k ≡ true
unfolding first_bad
first_all ok zero k l = absurd (not-suc-le-zero l)
first_all ok (suc n) k l = go (ok 0) refl k (first_all (λ k. ok (suc k)) n) l
  where
    go : (t : Bool) → ok 0 ≡ t → (k : ℕ) → ((k : ℕ) → k < first_bad (λ k. ok (suc k)) n → ok (suc k) ≡ true)
        → k < cond t (suc (first_bad (λ k. ok (suc k)) n)) 0 → ok k ≡ true
    go true e zero ih l = e
    go true e (suc k) ih l = ih k (le_of_suc-le-suc l)
    go false e k ih l = absurd (not-suc-le-zero l)

-- where it is below n, the test fails there
pub first_fails : (ok : ℕ → Bool) (n : ℕ) → first_bad ok n < n → ok (first_bad ok n) ≡ false
unfolding first_bad
first_fails ok zero l = absurd (not-suc-le-zero l)
first_fails ok (suc n) l = go (ok 0) refl (first_fails (λ k. ok (suc k)) n) l
  where
    go : (t : Bool) → ok 0 ≡ t → (first_bad (λ k. ok (suc k)) n < n → ok (suc (first_bad (λ k. ok (suc k)) n)) ≡ false)
        → cond t (suc (first_bad (λ k. ok (suc k)) n)) 0 < suc n → ok (cond t (suc (first_bad (λ k. ok (suc k)) n)) 0) ≡ false
    go true e ih l = ih (le_of_suc-le-suc l)
    go false e ih l = e

-- it is no later than a place at which the test fails
pub first_before : (ok : ℕ → Bool) (n i : ℕ) → ok i ≡ false → first_bad ok n ≤ i
first_before ok n i e =
    ⊎_elim (λ (l : first_bad ok n ≤ i). l) (λ (l : i < first_bad ok n). absurd (false≢true (sym e ∙ first_all ok n i l))) (le_or_lt (first_bad ok n) i)

pub every_yes : (ok : ℕ → Bool) (n : ℕ) → ((k : ℕ) → k < n → ok k ≡ true) → every ok n ≡ true
unfolding every
every_yes ok n h = eq-eqb _ _ (first_none ok n h)

pub every_no : (ok : ℕ → Bool) (n i : ℕ) → i < n → ((k : ℕ) → k < i → ok k ≡ true) → ok i ≡ false → every ok n ≡ false
unfolding every
every_no ok n i l h e = let f : first_bad ok n ≡ i = first_here ok n i l h e in ne_eqb (first_bad ok n) n (λ q. omega arith)

pub every_all : (ok : ℕ → Bool) (n : ℕ) → every ok n ≡ true → (k : ℕ) → k < n → ok k ≡ true
unfolding every
every_all ok n e k l = let f : first_bad ok n ≡ n = eqb-true _ _ e in first_all ok n k (omega arith)

pub every_next : (ok : ℕ → Bool) (n : ℕ) → every ok (n + 1) ≡ every ok n && ok n
every_next ok n =
    same_test (every ok (n + 1)) (every ok n && ok n)
    (λ e. and_i (every ok n) (ok n) (every_yes ok n (λ k l. every_all ok (n + 1) e k (omega arith))) (every_all ok (n + 1) e n (omega arith)))
    (λ e. every_yes ok (n + 1) (below_more (λ k. ok k ≡ true) n (every_all ok n (and_l (every ok n) (ok n) e)) (and_r (every ok n) (ok n) e)))

-- what a loop knows at place i: every place before it passes. Shut, so that `search` finds it by its name.
unfoldable pub Passed : (ℕ → Bool) → ℕ → Type 0
Passed ok i = (k : ℕ) → k < i → ok k ≡ true

pub passed_none : (ok : ℕ → Bool) → Passed ok 0
unfolding Passed
passed_none ok k l = absurd (not-suc-le-zero l)

pub passed_more : (ok : ℕ → Bool) (i : ℕ) → Passed ok i → ok i ≡ true → Passed ok (i + 1)
unfolding Passed
passed_more ok i h e = below_more (λ k. ok k ≡ true) i h e

-- the two exits of a loop that looks for the first bad place
pub passed_end : (ok : ℕ → Bool) (n i : ℕ) → n ≤ i → i ≤ n → Passed ok i → n ≡ first_bad ok n
unfolding Passed
passed_end ok n i l m h = let e : first_bad ok n ≡ n = first_none ok n (λ k p. h k (omega arith)) in omega arith

pub passed_stop : (ok : ℕ → Bool) (n i : ℕ) → i < n → Passed ok i → ok i ≡ false → i ≡ first_bad ok n
unfolding Passed
passed_stop ok n i l h e = sym (first_here ok n i l h e)

-- tests that agree below n have the same first bad place
pub first_ext : (f g : ℕ → Bool) (n : ℕ) → ((k : ℕ) → k < n → f k ≡ g k) → first_bad f n ≡ first_bad g n
unfolding first_bad
first_ext f g zero h = refl
first_ext f g (suc n) h = rw (h 0 (suc-le-suc zero-le), first_ext (λ k. f (suc k)) (λ k. g (suc k)) n (λ k l. h (suc k) (suc-le-suc l)))

-- the same from the front
eqb_suc : (a b : ℕ) → eqb (suc a) (suc b) ≡ eqb a b
eqb_suc a b = go (eqb a b) refl
  where
    go : (t : Bool) → eqb a b ≡ t → eqb (suc a) (suc b) ≡ t
    go true e = eq-eqb (suc a) (suc b) (ap suc (eqb-true a b e))
    go false e = ne_eqb (suc a) (suc b) (λ q. eqb-false a b e (omega arith))

pub every_front : (ok : ℕ → Bool) (n : ℕ) → every ok (suc n) ≡ ok 0 && every (λ k. ok (suc k)) n
unfolding every first_bad
every_front ok n = go (ok 0)
  where
    go : (t : Bool) → eqb (cond t (suc (first_bad (λ k. ok (suc k)) n)) 0) (suc n) ≡ t && eqb (first_bad (λ k. ok (suc k)) n) n
    go true = eqb_suc (first_bad (λ k. ok (suc k)) n) n
    go false = ne_eqb 0 (suc n) (λ q. omega arith)

pub every_ext : (f g : ℕ → Bool) (n : ℕ) → ((k : ℕ) → k < n → f k ≡ g k) → every f n ≡ every g n
unfolding every
every_ext f g n h = ap (λ (m : ℕ). eqb m n) (first_ext f g n h)

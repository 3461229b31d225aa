-- What a loop gathers place by place.
--     joined_..                         runs of bytes one behind another
--     count_..                          how many places below n meet a test
--     after_..                          a table after some steps
--     filter_rows                       how many rows meet a test
--     gathered_..                       what is kept at places: its runs, its number, and what a partial function keeps of rows
use mathlib.Core.Path.{◌≡◌, refl, sym, ap, ap₂, ◌∙◌}
use mathlib.Core.Bool.{Bool, true, false, cond}
use mathlib.Core.Logic.{⊎_elim}
use mathlib.Core.Option.{Option, none, some, Option-elim}
use mathlib.Core.List.{List, ◌∷◌, ◌++◌, append_assoc, append-nil, filter_map}
use Prim.Native.Nat.{ℕ, zero, suc, ◌+◌, ◌≤◌, ◌<◌}
use native.Mathlib.Nat.{eq-or-lt_of_le, le_of_suc-le-suc}
use native.Mathlib.Numerals.{add-one}
use native.Mathlib.Omega.{arith}
use lib.ListN.{length, get_or, length-append, set, length-set}
use lib.Seq.{get_or-set_same, get_or-set_other}
use mir.Val.{bool_byte}
use Rattle.lists.specs.Filter.{filter, holds}
use Rattle.lists.specs.Rows.{rows, laid_rows}
use Rattle.lists.specs.Stride.{at}
use Rattle.lists.proofs.Stride.{at_zero, at_shift}
use Rattle.lists.specs.Gather.{count, joined, table_after, laid_option, gathered}

pub joined_next : (run : ℕ → List ℕ) (i : ℕ) → joined run (i + 1) ≡ joined run i ++ run i
unfolding joined
joined_next run i = rw (add-one i) refl

pub joined_front : (run : ℕ → List ℕ) (n : ℕ) → joined run (suc n) ≡ run 0 ++ joined (λ k. run (suc k)) n
unfolding joined
joined_front run zero = sym (append-nil (run 0))
joined_front run (suc n) = ap (λ (l : List ℕ). l ++ run (suc n)) (joined_front run n) ∙ append_assoc (run 0) (joined (λ k. run (suc k)) n) (run (suc n))

-- fewer runs are no longer
pub joined_within : (run : ℕ → List ℕ) (i n : ℕ) → i ≤ n → length (joined run i) ≤ length (joined run n)
unfolding joined
joined_within run i zero l = let e : i ≡ 0 = omega arith in rw e (omega arith)
joined_within run i (suc n) l = ⊎_elim
    (λ (e : i ≡ suc n). rw e (omega arith))
    (λ (k : i < suc n). let h = joined_within run i n (omega arith) in omega (arith, length-append (joined run n) (run n)))
    (eq-or-lt_of_le l)

module _ {A : Type 0} (step : ℕ → List A → List A) (table : List A) where
  pub after_none : table ≡ table_after step 0 table
  unfolding table_after
  after_none = refl

  pub after_next : (i : ℕ) (before after : List A) → before ≡ table_after step i table → after ≡ step i before → after ≡ table_after step (i + 1) table
  unfolding table_after
  after_next i before after e d = rw (add-one i, ← e) d

  pub after_long : ((i : ℕ) (t : List A) → length (step i t) ≡ length t) → (n : ℕ) → length (table_after step n table) ≡ length table
  unfolding table_after
  after_long h zero = refl
  after_long h (suc n) = h n (table_after step n table) ∙ after_long h n

  -- each step stores at its own place
  module _ (P : ℕ → A → Type 0) (empty : A) (long : (i : ℕ) (t : List A) → length (step i t) ≡ length t)
      (kept : (i : ℕ) (t : List A) (k : ℕ) → k < i → get_or (step i t) k empty ≡ get_or t k empty) where
    pub after_rows : (n : ℕ) → ((i : ℕ) → i < n → (t : List A) → length t ≡ length table → P i (get_or (step i t) i empty))
        → (k : ℕ) → k < n → P k (get_or (table_after step n table) k empty)
    unfolding table_after
    after_rows zero h k l = absurd (omega arith)
    after_rows (suc n) h k l = ⊎_elim
        (λ (e : k ≡ n). rw e (h n (omega arith) (table_after step n table) (after_long long n)))
        (λ (m : k < n). rw (kept n (table_after step n table) k m) (after_rows n (λ i q. h i (omega arith)) k m))
        (eq-or-lt_of_le (le_of_suc-le-suc l))

-- a table that is stored place by place
pub after_stored : {A : Type 0} → (value : ℕ → A) (empty : A) (table : List A) (n : ℕ) → n ≤ length table → (k : ℕ) → k < n → get_or (table_after (λ i t. set t i (value i)) n table) k empty ≡ value k
after_stored value empty table n m = after_rows (λ i t. set t i (value i)) table (λ k v. v ≡ value k) empty
    (λ i t. length-set t i (value i))
    (λ i t k l. get_or-set_other t i k (value i) empty (λ e. omega arith))
    n
    (λ i l t e. get_or-set_same t i (value i) empty (omega arith))

pub count_none : (test : ℕ → Bool) → 0 ≡ count test 0
unfolding count
count_none test = refl

pub count_next : (test : ℕ → Bool) (i : ℕ) → count test (i + 1) ≡ count test i + cond (test i) 1 0
unfolding count
count_next test i = rw (add-one i) refl

-- a test as a number to count with
pub count_one : (t : Bool) → bool_byte t ≡ cond t 1 0
count_one true = refl
count_one false = refl

pub count_most : (t : Bool) → bool_byte t ≤ 1
count_most true = omega arith
count_most false = omega arith

pub count_front : (test : ℕ → Bool) (n : ℕ) → count test (suc n) ≡ cond (test 0) 1 0 + count (λ k. test (suc k)) n
unfolding count
count_front test zero = omega arith
count_front test (suc n) = let e = count_front test n in omega arith

pub count_ext : (test other : ℕ → Bool) (n : ℕ) → ((k : ℕ) → k < n → test k ≡ other k) → count test n ≡ count other n
unfolding count
count_ext test other zero h = refl
count_ext test other (suc n) h = ap₂ (λ (c : ℕ) (t : Bool). c + cond t 1 0) (count_ext test other n (λ k l. h k (omega arith))) (h n (omega arith))

pub count_le : (test : ℕ → Bool) (n : ℕ) → count test n ≤ n
unfolding count
count_le test zero = omega arith
count_le test (suc n) = go (test n) (count_le test n)
  where
    go : (t : Bool) → count test n ≤ n → count test n + cond t 1 0 ≤ suc n
    go true h = omega arith
    go false h = omega arith

module _ {A : Type 0} where
  -- the runs of what is kept, one behind another
  pub gathered_laid : (bytes : A → List ℕ) (kept : ℕ → Option A) (n : ℕ) → laid_rows bytes (gathered kept n) ≡ joined (λ i. laid_option bytes (kept i)) n
  unfolding gathered joined Option-elim
  gathered_laid bytes kept zero = refl
  gathered_laid bytes kept (suc n) =
      first (kept 0) (gathered (λ k. kept (suc k)) n)
      ∙ ap (◌++◌ (laid_option bytes (kept 0))) (gathered_laid bytes (λ k. kept (suc k)) n)
      ∙ sym (joined_front (λ i. laid_option bytes (kept i)) n)
    where
      first : (o : Option A) (ys : List A) → laid_rows bytes (Option-elim o ys (λ x. x ∷ ys)) ≡ laid_option bytes o ++ laid_rows bytes ys
      first none ys = refl
      first (some y) ys = refl

  -- how many there are
  pub gathered_count : (kept : ℕ → Option A) (n : ℕ) → length (gathered kept n) ≡ count (λ i. holds (λ (x : A). true) (kept i)) n
  unfolding gathered count Option-elim
  gathered_count kept zero = refl
  gathered_count kept (suc n) =
      first (kept 0) (gathered (λ k. kept (suc k)) n)
      ∙ ap (◌+◌ (cond (holds (λ (x : A). true) (kept 0)) 1 0)) (gathered_count (λ k. kept (suc k)) n)
      ∙ sym (count_front (λ i. holds (λ (x : A). true) (kept i)) n)
    where
      first : (o : Option A) (ys : List A) → length (Option-elim o ys (λ x. x ∷ ys)) ≡ cond (holds (λ (x : A). true) o) 1 0 + length ys
      first none ys = omega arith
      first (some y) ys = omega arith

  pub gathered_ext : (kept other : ℕ → Option A) (n : ℕ) → ((k : ℕ) → k < n → kept k ≡ other k) → gathered kept n ≡ gathered other n
  unfolding gathered
  gathered_ext kept other zero h = refl
  gathered_ext kept other (suc n) h =
      ap₂ (λ (o : Option A) (ys : List A). Option-elim o ys (λ x. x ∷ ys)) (h 0 (omega arith))
      (gathered_ext (λ k. kept (suc k)) (λ k. other (suc k)) n (λ k l. h (suc k) (omega arith)))

-- what a partial function keeps of rows
pub gathered_rows : {A B : Type 0} (keep : A → Option B) (value : ℕ → A) (width offset n : ℕ)
    → filter_map keep (rows value width offset n) ≡ gathered (λ i. keep (value (at offset width i))) n
unfolding gathered filter_map
gathered_rows keep value width offset zero = refl
gathered_rows {A} {B} keep value width offset (suc n) = ap₂ (λ (o : Option B) (ys : List B). Option-elim o ys (λ x. x ∷ ys))
    (ap (λ (o : ℕ). keep (value o)) (sym (at_zero offset width)))
    (gathered_rows keep value width (offset + width) n ∙ gathered_ext _ _ n (λ k l. ap (λ (o : ℕ). keep (value o)) (sym (at_shift offset width k))))

-- how many rows meet a test
pub filter_rows : {A : Type 0} (p : A → Bool) (value : ℕ → A) (width offset n : ℕ)
    → length (filter p (rows value width offset n)) ≡ count (λ i. p (value (at offset width i))) n
unfolding count
filter_rows p value width offset zero = refl
filter_rows {A} p value width offset (suc n) =
    first (p (value offset)) (value offset) (filter p (rows value width (offset + width) n))
    ∙ ap₂ (λ (t : Bool) (c : ℕ). cond t 1 0 + c) (ap (λ (o : ℕ). p (value o)) (sym (at_zero offset width)))
    (filter_rows p value width (offset + width) n ∙ count_ext _ _ n (λ k l. ap (λ (o : ℕ). p (value o)) (sym (at_shift offset width k))))
    ∙ sym (count_front (λ i. p (value (at offset width i))) n)
  where
    first : (t : Bool) (x : A) (xs : List A) → length (cond t (x ∷ xs) xs) ≡ cond t 1 0 + length xs
    first true x xs = omega arith
    first false x xs = omega arith

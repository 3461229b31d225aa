-- Answers told apart, and tables of refusals.
--     given_same, refused_..           answers told apart
--     is_some_..                        from an entry to what it holds
--     then_given, then_refused         one call upon another's answer, taken apart
--     row_given, row_refused           a row above an answer
--     first_append, first_then         two tables one after the other; a call on what a table lets through
--     NoneApplies, first_given, ..     an answer that was given met no row, and back; first_behind for the first rows alone
--     first_meets                      what holds of every row's answer
use mathlib.Core.Path.{◌≡◌, refl, sym, ap, ◌∙◌}
use mathlib.Core.Bool.{Bool, true, false, cond, false≢true}
use mathlib.Core.Logic.{◌⊎◌, inl, inr}
use mathlib.Core.Option.{Option, none, some}
use mathlib.Core.List.{List, [], ◌∷◌, ◌++◌, map}
use Prim.Native.Nat.{ℕ, zero, suc}
use native.Mathlib.Omega.{arith}
use lib.ListN.{take, drop}
use Rattle.lists.specs.All.{all}
use Rattle.lists.proofs.Test.{and_l, and_r}
use Rattle.lists.specs.Answer.{Answer, given, refused, and_then, is_some, row, NoneApplies}
use Rattle.lists.specs.Test.{first_applying}

pub given_same : {A : Type 0} {x y : A} → given x ≡ given y → x ≡ y
given_same e = cc

pub refused_given : {A : Type 0} {number place : ℕ} {x : A} → refused number place ≡ given x → ⊥
refused_given e = let z : ◌≡◌ {A = ℕ} 0 1 = cc in omega arith

pub refused_number : {A : Type 0} {n m p q : ℕ} → ◌≡◌ {A = Answer A} (refused n p) (refused m q) → n ≡ m
refused_number e = cc

pub refused_place : {A : Type 0} {n m p q : ℕ} → ◌≡◌ {A = Answer A} (refused n p) (refused m q) → p ≡ q
refused_place e = cc

pub is_some_true : {A : Type 0} (o : Option A) → is_some o ≡ true → (x : A) × (o ≡ some x)
is_some_true none e = absurd (false≢true e)
is_some_true (some x) e = (x, refl)

pub is_some_false : {A : Type 0} (o : Option A) → is_some o ≡ false → o ≡ none
is_some_false none e = refl
is_some_false (some x) e = absurd (false≢true (sym e))

module _ {A B : Type 0} where
  pub then_given : (a : Answer A) (f : A → Answer B) (y : B) → and_then a f ≡ given y → (x : A) × (a ≡ given x) × (f x ≡ given y)
  then_given (given x) f y e = (x, refl, e)
  then_given (refused number place) f y e = absurd (refused_given e)

  pub then_refused : (a : Answer A) (f : A → Answer B) (number place : ℕ) → and_then a f ≡ refused number place
      → (a ≡ refused number place) ⊎ ((x : A) × (a ≡ given x) × (f x ≡ refused number place))
  then_refused (given x) f number place e = inr (x, refl, e)
  then_refused (refused n p) f number place e = inl (cc)

module _ {A : Type 0} where
  pub row_given : (number : ℕ) (at : Option ℕ) (below : Answer A) (x : A) → first_applying (row number at ∷ []) below ≡ given x
      → (at ≡ none) × (below ≡ given x)
  row_given number none below x e = (refl, e)
  row_given number (some place) below x e = absurd (refused_given e)

  pub row_refused : (number : ℕ) (at : Option ℕ) (below : Answer A) (n place : ℕ) → first_applying (row number at ∷ []) below ≡ refused n place
      → ((n ≡ number) × (at ≡ some place)) ⊎ ((at ≡ none) × (below ≡ refused n place))
  row_refused number none below n place e = inr (refl, e)
  row_refused number (some i) below n place e = inl (sym (refused_number e), ap some (refused_place e))

  pub first_append : (rows more : List (Bool × A)) (x : A) → first_applying (rows ++ more) x ≡ first_applying rows (first_applying more x)
  first_append [] more x = refl
  first_append (r ∷ rows) more x = ap (cond r.0 r.1) (first_append rows more x)

-- every row of a table refuses
abbrev pub is_refused : {A : Type 0} → Answer A → Bool
is_refused (given x) = false
is_refused (refused number place) = true

abbrev pub refusing : {A : Type 0} → List (Bool × Answer A) → Bool
refusing {A} rows = all (λ (r : Bool × Answer A). is_refused r.1) rows

module _ {A : Type 0} where
  -- what a table of refusals lets through met none of its rows
  pub first_given : (rows : List (Bool × Answer A)) (below : Answer A) (x : A) → refusing rows ≡ true → first_applying rows below ≡ given x
      → NoneApplies rows × (below ≡ given x)
  first_given [] below x h e = (tt, e)
  first_given (r ∷ rows) below x h e = go r.0 refl r.1 refl e (first_given rows below x (and_r (is_refused r.1) (refusing rows) h))
    where
      go : (t : Bool) → r.0 ≡ t → (a : Answer A) → r.1 ≡ a → cond t a (first_applying rows below) ≡ given x
          → (first_applying rows below ≡ given x → NoneApplies rows × (below ≡ given x)) → NoneApplies (r ∷ rows) × (below ≡ given x)
      go true p (given y) q z k = absurd (false≢true (sym (ap is_refused q) ∙ and_l (is_refused r.1) (refusing rows) h))
      go true p (refused number place) q z k = absurd (refused_given z)
      go false p a q z k = ((p, (k z).0), (k z).1)

  pub none_first : (rows : List (Bool × Answer A)) (below : Answer A) → NoneApplies rows → first_applying rows below ≡ below
  none_first [] below h = refl
  none_first (r ∷ rows) below h = rw h.0 (none_first rows below h.1)

  -- where none of the first k rows applies, those behind them decide
  pub first_behind : (k : ℕ) (rows : List (Bool × Answer A)) (below : Answer A) → NoneApplies (take k rows) → first_applying rows below ≡ first_applying (drop k rows) below
  first_behind zero rows below h = refl
  first_behind (suc k) [] below h = refl
  first_behind (suc k) (r ∷ rows) below h = rw h.0 (first_behind k rows below h.1)

  -- a call on what a table lets through
  pub first_then : {B : Type 0} (rows : List (Bool × Answer A)) (below : Answer A) (f : A → Answer B)
      → and_then (first_applying rows below) f ≡ first_applying (map (λ (r : Bool × Answer A). (r.0, and_then r.1 f)) rows) (and_then below f)
  first_then [] below f = refl
  first_then {B} (r ∷ rows) below f = go r.0 (first_then rows below f)
    where
      go : (t : Bool) → and_then (first_applying rows below) f ≡ first_applying (map (λ (q : Bool × Answer A). (q.0, and_then q.1 f)) rows) (and_then below f)
          → and_then (cond t r.1 (first_applying rows below)) f
          ≡ cond t (and_then r.1 f) (first_applying (map (λ (q : Bool × Answer A). (q.0, and_then q.1 f)) rows) (and_then below f))
      go true e = refl
      go false e = e

  -- what holds of every row's answer and of what is below the table holds of the first that applies
  pub first_meets : (test : Answer A → Bool) (rows : List (Bool × Answer A)) (below : Answer A)
      → all (λ (r : Bool × Answer A). test r.1) rows ≡ true → test below ≡ true → test (first_applying rows below) ≡ true
  first_meets test [] below h e = e
  first_meets test (r ∷ rows) below h e =
      go r.0 (first_meets test rows below (and_r (test r.1) (all (λ (q : Bool × Answer A). test q.1) rows) h) e)
    where
      go : (t : Bool) → test (first_applying rows below) ≡ true → test (cond t r.1 (first_applying rows below)) ≡ true
      go true k = and_l (test r.1) (all (λ (q : Bool × Answer A). test q.1) rows) h
      go false k = k

-- Tests: their connectives taken apart and put together.
-- Laws of `not`, `&&` and `||` alone are in mathlib.Core.Bool; from a comparison to its test and back in borrow.Author.Tests.
use mathlib.Core.Path.{◌≡◌, refl, sym}
use mathlib.Core.Bool.{Bool, true, false, cond, ◌&&◌, ◌||◌, false≢true, true≢false}
use mathlib.Core.Logic.{◌⊎◌, inl, inr}
use Prim.Native.Nat.{ℕ, ◌≤◌, ◌<◌}
use lib.Dec.{leb}
use borrow.Author.Tests.{leb-true, leb-false}

-- a choice that came to e, where its first answer is not e, was not taken
pub cond_off : {A : Type 0} (t : Bool) (a z e : A) → (a ≡ e → ⊥) → cond t a z ≡ e → (t ≡ false) × (z ≡ e)
cond_off true a z e n h = absurd (n h)
cond_off false a z e n h = (refl, h)

-- a function of a choice, and choices that are none
pub cond_ap : {A B : Type 0} (f : A → B) (t : Bool) (x y : A) → f (cond t x y) ≡ cond t (f x) (f y)
cond_ap f true x y = refl
cond_ap f false x y = refl

pub cond_same : {A : Type 0} (t : Bool) (x : A) → cond t x x ≡ x
cond_same true x = refl
cond_same false x = refl

pub cond_test : (t : Bool) → cond t true false ≡ t
cond_test true = refl
cond_test false = refl

-- both
pub and_l : (a b : Bool) → a && b ≡ true → a ≡ true
and_l true b h = refl
and_l false b h = h

pub and_r : (a b : Bool) → a && b ≡ true → b ≡ true
and_r true b h = h
and_r false b h = absurd (false≢true h)

pub and_i : (a b : Bool) → a ≡ true → b ≡ true → a && b ≡ true
and_i true b h k = k
and_i false b h k = h

pub and_absorb : (a b : Bool) → (b ≡ true → a ≡ true) → a && b ≡ b
and_absorb true b f = refl
and_absorb false true f = f refl
and_absorb false false f = refl

-- at least one
pub or_i_l : (a b : Bool) → a ≡ true → a || b ≡ true
or_i_l true b h = refl
or_i_l false b h = absurd (false≢true h)

pub or_i_r : (a b : Bool) → b ≡ true → a || b ≡ true
or_i_r true b h = refl
or_i_r false b h = h

pub or_f_l : (a b : Bool) → a || b ≡ false → a ≡ false
or_f_l true b h = h
or_f_l false b h = refl

pub or_f_r : (a b : Bool) → a || b ≡ false → b ≡ false
or_f_r true b h = absurd (true≢false h)
or_f_r false b h = h

pub or_second : (a b : Bool) → a ≡ false → a || b ≡ true → b ≡ true
or_second true b e h = absurd (true≢false e)
or_second false b e h = h

pub or_swap : (a b c d : Bool) → (a || b) || (c || d) ≡ (a || c) || (b || d)
or_swap true b c d = refl
or_swap false true true d = refl
or_swap false true false d = refl
or_swap false false c d = refl

-- two tests that are true together are equal
pub same_test : (a b : Bool) → (a ≡ true → b ≡ true) → (b ≡ true → a ≡ true) → a ≡ b
same_test true true f g = refl
same_test true false f g = sym (f refl)
same_test false true f g = g refl
same_test false false f g = refl

-- a test is true or false
pub yes_or_no : (t : Bool) → (t ≡ true) ⊎ (t ≡ false)
yes_or_no true = inl refl
yes_or_no false = inr refl

-- two numbers stand one way or the other
pub le_or_lt : (a b : ℕ) → (a ≤ b) ⊎ (b < a)
le_or_lt a b = go (leb a b) refl
  where
    go : (t : Bool) → leb a b ≡ t → (a ≤ b) ⊎ (b < a)
    go true e = inl (leb-true a b e)
    go false e = inr (leb-false a b e)

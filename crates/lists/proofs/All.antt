-- What a fact at every element, and a test over a list, come to.
--     all_..          a fact at every element
--     all, any        tests, to facts and back
--     all_alike_..     two lists with the same elements
--     distinct_..     numbers that are all different, of two lists one after the other
use mathlib.Core.Path.{◌≡◌, refl, sym, ap₂, ◌∙◌, ap, subst}
use mathlib.Core.Bool.{Bool, true, false, ◌||◌, or_assoc, false≢true}
use mathlib.Core.List.{List, [], ◌∷◌, ◌++◌}
use mathlib.Core.Option.{some, none-ne-some, some-injective}
use Prim.Native.Nat.{ℕ, zero, suc, ◌<◌}
use native.Mathlib.Omega.{arith}
use lib.Dec.{eqb}
use lib.ListN.{length, get_elem?}
use borrow.Author.Tests.{eqb-true, ne_eqb}
use Rattle.lists.proofs.Test.{and_l, and_r, and_i, or_i_l, or_i_r, or_f_l, or_f_r, or_swap}
use Rattle.lists.specs.All.{All, all, any, all_alike, Distinct}

module _ {A : Type 0} where
  pub all_map : {P Q : A → Type 0} (xs : List A) → ((x : A) → P x → Q x) → All P xs → All Q xs
  all_map [] f h = tt
  all_map (x ∷ xs) f h = (f x h.0, all_map xs f h.1)

  pub all_both : (P Q : A → Type 0) (xs : List A) → All P xs → All Q xs → All (λ (x : A). P x × Q x) xs
  all_both P Q [] h k = tt
  all_both P Q (x ∷ xs) h k = ((h.0, k.0), all_both P Q xs h.1 k.1)

  pub all_of : {P : A → Type 0} (xs : List A) → ((x : A) → P x) → All P xs
  all_of [] f = tt
  all_of (x ∷ xs) f = (f x, all_of xs f)

  pub all_append : (P : A → Type 0) (xs ys : List A) → All P xs → All P ys → All P (xs ++ ys)
  all_append P [] ys h k = k
  all_append P (x ∷ xs) ys h k = (h.0, all_append P xs ys h.1 k)

  -- and back
  pub append_all : (P : A → Type 0) (xs ys : List A) → All P (xs ++ ys) → All P xs × All P ys
  append_all P [] ys h = (tt, h)
  append_all P (x ∷ xs) ys h = let r = append_all P xs ys h.1 in ((h.0, r.0), r.1)

  pub all_at : (P : A → Type 0) (xs : List A) (i : ℕ) (x : A) → All P xs → get_elem? xs i ≡ some x → P x
  all_at P [] i x h e = absurd (none-ne-some _ e)
  all_at P (y ∷ ys) zero x h e = subst P (some-injective _ _ e) h.0
  all_at P (y ∷ ys) (suc i) x h e = all_at P ys i x h.1 e

  -- a fact at every element for every index is, at every element, a fact for every index
  pub all_each : {I : Type 0} (P : I → A → Type 0) (xs : List A) → ((k : I) → All (P k) xs) → All (λ (x : A). (k : I) → P k x) xs
  all_each P [] h = tt
  all_each P (x ∷ xs) h = (λ k. (h k).0, all_each P xs (λ k. (h k).1))

  -- a test at every element
  pub all_true : (p : A → Bool) (xs : List A) → all p xs ≡ true → All (λ (x : A). p x ≡ true) xs
  all_true p [] h = tt
  all_true p (x ∷ xs) h = (and_l (p x) (all p xs) h, all_true p xs (and_r (p x) (all p xs) h))

  pub true_all : (p : A → Bool) (xs : List A) → All (λ (x : A). p x ≡ true) xs → all p xs ≡ true
  true_all p [] h = refl
  true_all p (x ∷ xs) h = and_i (p x) (all p xs) h.0 (true_all p xs h.1)

  pub any_false : (p : A → Bool) (xs : List A) → any p xs ≡ false → All (λ (x : A). p x ≡ false) xs
  any_false p [] h = tt
  any_false p (x ∷ xs) h = (or_f_l (p x) (any p xs) h, any_false p xs (or_f_r (p x) (any p xs) h))

  pub false_any : (p : A → Bool) (xs : List A) → All (λ (x : A). p x ≡ false) xs → any p xs ≡ false
  false_any p [] h = refl
  false_any p (x ∷ xs) h = rw h.0 (false_any p xs h.1)

  -- a test that every element of a list with an element meets
  pub all_any : (p : A → Bool) (xs : List A) → 0 < length xs → All (λ (x : A). p x ≡ true) xs → any p xs ≡ true
  all_any p [] l h = absurd (omega arith)
  all_any p (x ∷ xs) l h = or_i_l (p x) (any p xs) h.0

  -- at each element of the list: any test that it meets is met by some element
  pub any_here : (xs : List A) → All (λ (x : A). (p : A → Bool) → p x ≡ true → any p xs ≡ true) xs
  any_here [] = tt
  any_here (x ∷ xs) = (
    λ p h. or_i_l (p x) (any p xs) h,
    all_map xs (λ y f p h. or_i_r (p x) (any p xs) (f p h)) (any_here xs),
  )

  -- an element that meets a test, with what is known at every element
  pub any_found : {P : A → Type 0} (p : A → Bool) (xs : List A) → All P xs → any p xs ≡ true → (x : A) × P x × (p x ≡ true)
  any_found p [] h e = absurd (false≢true e)
  any_found {P} p (x ∷ xs) h e = go (p x) refl e (any_found p xs h.1)
    where
      go : (t : Bool) → p x ≡ t → t || any p xs ≡ true → (any p xs ≡ true → (y : A) × P y × (p y ≡ true)) → (y : A) × P y × (p y ≡ true)
      go true q e' r = (x, h.0, q)
      go false q e' r = r e'

  pub any_congr : (p q : A → Bool) (xs : List A) → All (λ (x : A). p x ≡ q x) xs → any p xs ≡ any q xs
  any_congr p q [] h = refl
  any_congr p q (x ∷ xs) h = ap₂ ◌||◌ h.0 (any_congr p q xs h.1)

  pub any_mono : (p q : A → Bool) (xs : List A) → All (λ (x : A). p x ≡ true → q x ≡ true) xs → any p xs ≡ true → any q xs ≡ true
  any_mono p q [] h e = e
  any_mono p q (x ∷ xs) h e = go (p x) h.0 e (any_mono p q xs h.1)
    where
      go : (t : Bool) → (t ≡ true → q x ≡ true) → t || any p xs ≡ true → (any p xs ≡ true → any q xs ≡ true) → q x || any q xs ≡ true
      go true f e' r = or_i_l (q x) (any q xs) (f refl)
      go false f e' r = or_i_r (q x) (any q xs) (r e')

  pub any_or : (p q : A → Bool) (xs : List A) → any p xs || any q xs ≡ any (λ (x : A). p x || q x) xs
  any_or p q [] = refl
  any_or p q (x ∷ xs) = or_swap (p x) (any p xs) (q x) (any q xs) ∙ ap (◌||◌ (p x || q x)) (any_or p q xs)

  pub any_append : (p : A → Bool) (xs ys : List A) → any p (xs ++ ys) ≡ any p xs || any p ys
  any_append p [] ys = refl
  any_append p (x ∷ xs) ys = ap (◌||◌ (p x)) (any_append p xs ys) ∙ sym (or_assoc (p x) (any p xs) (any p ys))

-- two lists with the same elements, where the test tells whether two elements are equal
module _ {A : Type 0} (alike : A → A → Bool) where
  pub all_alike_self : ((x : A) → alike x x ≡ true) → (xs : List A) → all_alike alike xs xs ≡ true
  all_alike_self self [] = refl
  all_alike_self self (x ∷ xs) = and_i (alike x x) (all_alike alike xs xs) (self x) (all_alike_self self xs)

  pub all_alike_true : ((x y : A) → alike x y ≡ true → x ≡ y) → (xs ys : List A) → all_alike alike xs ys ≡ true → xs ≡ ys
  all_alike_true equal [] [] e = refl
  all_alike_true equal [] (y ∷ ys) e = absurd (false≢true e)
  all_alike_true equal (x ∷ xs) [] e = absurd (false≢true e)
  all_alike_true equal (x ∷ xs) (y ∷ ys) e = ap₂ ◌∷◌ (equal x y (and_l (alike x y) (all_alike alike xs ys) e))
      (all_alike_true equal xs ys (and_r (alike x y) (all_alike alike xs ys) e))

-- numbers that are all different, in two lists one after the other: so are those of each, and no number is in both
pub distinct_front : (xs ys : List ℕ) → Distinct (xs ++ ys) → Distinct xs
distinct_front [] ys h = tt
distinct_front (x ∷ xs) ys h = ((append_all (λ (y : ℕ). x ≡ y → ⊥) xs ys h.0).0, distinct_front xs ys h.1)

pub distinct_back : (xs ys : List ℕ) → Distinct (xs ++ ys) → Distinct ys
distinct_back [] ys h = h
distinct_back (x ∷ xs) ys h = distinct_back xs ys h.1

pub distinct_apart : (xs ys : List ℕ) → Distinct (xs ++ ys) → (n : ℕ) → any (λ (k : ℕ). eqb n k) xs ≡ true → any (λ (k : ℕ). eqb n k) ys ≡ false
distinct_apart [] ys h n e = absurd (false≢true e)
distinct_apart (x ∷ xs) ys h n e = go (eqb n x) refl e (distinct_apart xs ys h.1 n)
  where
    go : (t : Bool) → eqb n x ≡ t → t || any (λ (k : ℕ). eqb n k) xs ≡ true
        → (any (λ (k : ℕ). eqb n k) xs ≡ true → any (λ (k : ℕ). eqb n k) ys ≡ false) → any (λ (k : ℕ). eqb n k) ys ≡ false
    go true q z r = false_any (λ (k : ℕ). eqb n k) ys (all_map ys (λ y d. ne_eqb n y (λ p. d (sym (eqb-true n x q) ∙ p)))
        (append_all (λ (y : ℕ). x ≡ y → ⊥) xs ys h.0).1)
    go false q z r = r z

-- The best of two.
--     decide_..          one decision, over what the decisions below it say
--     Order              what a test must keep for the best of a set to be one value
--     decided_..         decisions one under the other, and the order that they are where they tell all values apart
--     undecided_self     no decision tells a value from itself
--     best_..            the best of two, and its laws
use mathlib.Core.Path.{◌≡◌, refl, sym, ◌∙◌}
use mathlib.Core.Bool.{Bool, true, false, cond, false≢true}
use mathlib.Core.List.{List, [], ◌∷◌}
use mathlib.Core.Logic.{◌⊎◌, inl, inr}
use Prim.Native.Nat.{ℕ, ◌<◌}
use native.Mathlib.Omega.{arith}
use lib.Dec.{eqb, ltb}
use borrow.Author.Tests.{eqb-true, eqb-false, ltb-true, ltb-false, lt-ltb, le-ltb, ne_eqb, eq-eqb}
use Rattle.lists.specs.Best.{Decision, lower, higher, decided, undecided, best}

-- one decision, over what the decisions below it say
module _ (a b : ℕ) (r s : Bool) where
  decide_once : (r ≡ true → s ≡ false) → cond (eqb a b) r (ltb a b) ≡ true → cond (eqb b a) s (ltb b a) ≡ false
  decide_once f = go (eqb a b) refl
    where
      go : (t : Bool) → eqb a b ≡ t → cond t r (ltb a b) ≡ true → cond (eqb b a) s (ltb b a) ≡ false
      go true q e = rw (eq-eqb b a (sym (eqb-true a b q))) (f e)
      go false q e =
          let l : a < b = ltb-true a b e in
          rw (ne_eqb b a (λ z. eqb-false a b q (sym z))) (le-ltb b a (omega arith))

  decide_none : cond (eqb a b) r (ltb a b) ≡ false → cond (eqb b a) s (ltb b a) ≡ false → (a ≡ b) × (r ≡ false) × (s ≡ false)
  decide_none = go (eqb a b) refl
    where
      go : (t : Bool) → eqb a b ≡ t → cond t r (ltb a b) ≡ false → cond (eqb b a) s (ltb b a) ≡ false → (a ≡ b) × (r ≡ false) × (s ≡ false)
      go true q e k =
          let p : a ≡ b = eqb-true a b q in
          (p, e, rw (eq-eqb b a (sym p)) at k)
      go false q e k = absurd (eqb-false a b q
          (let g = ltb-false a b e in let h = ltb-false b a (rw (ne_eqb b a (λ z. eqb-false a b q (sym z))) at k) in omega arith))

decide_on : (a b c : ℕ) (r s t : Bool) → (r ≡ true → s ≡ true → t ≡ true)
    → cond (eqb a b) r (ltb a b) ≡ true → cond (eqb b c) s (ltb b c) ≡ true → cond (eqb a c) t (ltb a c) ≡ true
decide_on a b c r s t f = go (eqb a b) refl (eqb b c) refl
  where
    go : (x : Bool) → eqb a b ≡ x → (y : Bool) → eqb b c ≡ y → cond x r (ltb a b) ≡ true → cond y s (ltb b c) ≡ true → cond (eqb a c) t (ltb a c) ≡ true
    go true p true q h k = rw (eq-eqb a c (eqb-true a b p ∙ eqb-true b c q)) (f h k)
    go true p false q h k =
        let e : a ≡ b = eqb-true a b p in
        let l : b < c = ltb-true b c k in
        rw (ne_eqb a c (λ z. omega arith)) (lt-ltb a c (omega arith))
    go false p true q h k =
        let e : b ≡ c = eqb-true b c q in
        let l : a < b = ltb-true a b h in
        rw (ne_eqb a c (λ z. omega arith)) (lt-ltb a c (omega arith))
    go false p false q h k =
        let l : a < b = ltb-true a b h in
        let m : b < c = ltb-true b c k in
        rw (ne_eqb a c (λ z. omega arith)) (lt-ltb a c (omega arith))

-- no two beat each other, beating is handed on, and where neither of two beats the other they are the same
pub record Order {A : Type 0} (beats : A → A → Bool) : Type 0 where
  pub once : (x y : A) → beats x y ≡ true → beats y x ≡ false
  pub on : (x y z : A) → beats x y ≡ true → beats y z ≡ true → beats x z ≡ true
  pub same : (x y : A) → beats x y ≡ false → beats y x ≡ false → x ≡ y

module _ {A : Type 0} where
  decided_once : (ds : List (Decision A)) (x y : A) → decided ds x y ≡ true → decided ds y x ≡ false
  decided_once [] x y e = refl
  decided_once (lower number ∷ rest) x y e = decide_once (number x) (number y) (decided rest x y) (decided rest y x) (decided_once rest x y) e
  decided_once (higher number ∷ rest) x y e = decide_once (number y) (number x) (decided rest x y) (decided rest y x) (decided_once rest x y) e

  decided_on : (ds : List (Decision A)) (x y z : A) → decided ds x y ≡ true → decided ds y z ≡ true → decided ds x z ≡ true
  decided_on [] x y z e f = e
  decided_on (lower number ∷ rest) x y z e f =
      decide_on (number x) (number y) (number z) (decided rest x y) (decided rest y z) (decided rest x z) (decided_on rest x y z) e f
  decided_on (higher number ∷ rest) x y z e f =
      decide_on (number z) (number y) (number x) (decided rest y z) (decided rest x y) (decided rest x z) (λ p q. decided_on rest x y z q p) f e

  decided_none : (ds : List (Decision A)) (x y : A) → decided ds x y ≡ false → decided ds y x ≡ false → undecided ds x y ≡ true
  decided_none [] x y e f = refl
  decided_none (lower number ∷ rest) x y e f =
      let p = decide_none (number x) (number y) (decided rest x y) (decided rest y x) e f in
      rw (eq-eqb (number x) (number y) p.0) (decided_none rest x y p.1 p.2)
  decided_none (higher number ∷ rest) x y e f =
      let p = decide_none (number y) (number x) (decided rest x y) (decided rest y x) e f in
      rw (eq-eqb (number x) (number y) (sym p.0)) (decided_none rest x y p.1 p.2)

  pub undecided_self : (ds : List (Decision A)) (x : A) → undecided ds x x ≡ true
  undecided_self [] x = refl
  undecided_self (lower number ∷ rest) x = rw (eq-eqb (number x) (number x) refl) (undecided_self rest x)
  undecided_self (higher number ∷ rest) x = rw (eq-eqb (number x) (number x) refl) (undecided_self rest x)

  pub decided_order : (ds : List (Decision A)) → ((x y : A) → undecided ds x y ≡ true → x ≡ y) → Order (decided ds)
  decided_order ds apart = record {
    once = decided_once ds;
    on = decided_on ds;
    same = λ x y e f. apart x y (decided_none ds x y e f);
  }

module _ {A : Type 0} (beats : A → A → Bool) where
  pub best_selective : (x y : A) → (best beats x y ≡ x) ⊎ (best beats x y ≡ y)
  best_selective x y = go (beats y x)
    where
      go : (t : Bool) → (cond t y x ≡ x) ⊎ (cond t y x ≡ y)
      go true = inr refl
      go false = inl refl

  module _ (order : Order beats) where
    pub best_commutative : (x y : A) → best beats x y ≡ best beats y x
    best_commutative x y = go (beats y x) refl (beats x y) refl
      where
        go : (s : Bool) → beats y x ≡ s → (t : Bool) → beats x y ≡ t → cond s y x ≡ cond t x y
        go true p true q = absurd (false≢true (sym (order.once y x p) ∙ q))
        go true p false q = refl
        go false p true q = refl
        go false p false q = order.same x y q p

    -- what the best of two beats, and what beats it
    not_on : (x y z : A) → beats x y ≡ false → beats y z ≡ false → beats x z ≡ false
    not_on x y z p q = go (beats x z) refl (beats y x) refl
      where
        go : (s : Bool) → beats x z ≡ s → (t : Bool) → beats y x ≡ t → s ≡ false
        go false e t f = refl
        go true e true f = absurd (false≢true (sym q ∙ order.on y x z f e))
        go true e false f = absurd (false≢true (sym (rw (← order.same x y p f) at q) ∙ e))

    pub best_associative : (x y z : A) → best beats (best beats x y) z ≡ best beats x (best beats y z)
    best_associative x y z = go (beats y x) refl (beats z y) refl
      where
        go : (s : Bool) → beats y x ≡ s → (t : Bool) → beats z y ≡ t → best beats (cond s y x) z ≡ best beats x (cond t z y)
        go true p true q = rw (q, order.on z y x q p) refl
        go true p false q = rw (q, p) refl
        go false p true q = refl
        go false p false q = rw (not_on z y x q p, p) refl

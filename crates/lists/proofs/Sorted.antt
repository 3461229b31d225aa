-- Lists whose elements rise strictly by a key, under filter, first_that, filter_map and map.
use mathlib.Core.Path.{◌≡◌, refl, sym, ap, ◌∙◌, subst}
use mathlib.Core.Bool.{Bool, true, false, cond, ◌||◌}
use mathlib.Core.Option
use mathlib.Core.Option.{Option, none, some, Option-elim, bind, none-ne-some, some-injective}
use mathlib.Core.List.{List, [], ◌∷◌, filter_map, map}
use Prim.Native.Nat.{ℕ, suc, ◌≤◌, ◌<◌}
use native.Mathlib.Omega.{arith}
use lib.Dec.{eqb, leb}
use borrow.Author.Tests.{eqb-true, eq-eqb, ne_eqb, leb-true, le-leb, lt-leb}
use Rattle.lists.proofs.All.{all_map}
use Rattle.lists.proofs.Test.{or_i_l, or_i_r, and_l, and_r, and_i}
use Rattle.lists.specs.All.{All, any}
use Rattle.lists.specs.Filter.{filter, first_that}
use Rattle.lists.specs.Sorted.{Rises, find, rises}

module _ {A : Type 0} (key : A → ℕ) where
  pub rises_true : (lo : ℕ) (xs : List A) → rises key lo xs ≡ true → Rises key lo xs
  rises_true lo [] h = tt
  rises_true lo (x ∷ xs) h = (
    leb-true lo (key x) (and_l (leb lo (key x)) (rises key (suc (key x)) xs) h),
    rises_true (suc (key x)) xs (and_r (leb lo (key x)) (rises key (suc (key x)) xs) h),
  )

  pub true_rises : (lo : ℕ) (xs : List A) → Rises key lo xs → rises key lo xs ≡ true
  true_rises lo [] h = refl
  true_rises lo (x ∷ xs) h = and_i (leb lo (key x)) (rises key (suc (key x)) xs) (le-leb lo (key x) h.0) (true_rises (suc (key x)) xs h.1)

  pub rises_weak : (lo hi : ℕ) (xs : List A) → lo ≤ hi → Rises key hi xs → Rises key lo xs
  rises_weak lo hi [] l h = tt
  rises_weak lo hi (x ∷ xs) l h = (omega arith, h.1)

  pub rises_above : (lo : ℕ) (xs : List A) → Rises key lo xs → All (λ (x : A). lo ≤ key x) xs
  rises_above lo [] h = tt
  rises_above lo (x ∷ xs) h = (h.0, rises_above lo xs (rises_weak lo (suc (key x)) xs (omega arith) h.1))

  pub rises_filter : (p : A → Bool) (lo : ℕ) (xs : List A) → Rises key lo xs → Rises key lo (filter p xs)
  rises_filter p lo [] h = tt
  rises_filter p lo (x ∷ xs) h = go (p x) (rises_filter p (suc (key x)) xs h.1)
    where
      go : (t : Bool) → Rises key (suc (key x)) (filter p xs) → Rises key lo (cond t (x ∷ filter p xs) (filter p xs))
      go true r = (h.0, r)
      go false r = rises_weak lo (suc (key x)) (filter p xs) (omega arith) r

  pub find_low : (i lo : ℕ) (xs : List A) → i < lo → Rises key lo xs → find key i xs ≡ none
  find_low i lo [] l h = refl
  find_low i lo (x ∷ xs) l h = rw (ne_eqb (key x) i (λ e. omega arith)) (find_low i (suc (key x)) xs (omega arith) h.1)

  -- no key of a list that rises from above i is up to i
  pub filter_low : (i lo : ℕ) (xs : List A) → i < lo → Rises key lo xs → filter (λ (x : A). leb (key x) i) xs ≡ []
  filter_low i lo [] l h = refl
  filter_low i lo (x ∷ xs) l h = rw (lt-leb (key x) i (omega arith)) (filter_low i (suc (key x)) xs (omega arith) h.1)

  -- the first element that meets a test is the lowest that does
  pub first_that_lowest : (p : A → Bool) (lo : ℕ) (xs : List A) (x : A) → Rises key lo xs → first_that p xs ≡ some x
      → All (λ (y : A). key y < key x → p y ≡ false) xs
  first_that_lowest p lo [] x h e = tt
  first_that_lowest p lo (y ∷ ys) x h e = go (p y) refl e (first_that_lowest p (suc (key y)) ys x h.1)
    where
      go : (t : Bool) → p y ≡ t → cond t (some y) (first_that p ys) ≡ some x
          → (first_that p ys ≡ some x → All (λ (z : A). key z < key x → p z ≡ false) ys)
          → (key y < key x → p y ≡ false) × All (λ (z : A). key z < key x → p z ≡ false) ys
      go true q z r =
          let s : key y ≡ key x = ap key (some-injective _ _ z) in (
            λ l. absurd (omega arith),
            all_map ys (λ v l m. absurd (omega arith)) (rises_above (suc (key y)) ys h.1),
          )
      go false q z r = (λ l. q, r z)

  pub find_key : (i : ℕ) (xs : List A) (x : A) → find key i xs ≡ some x → key x ≡ i
  find_key i [] x e = absurd (none-ne-some _ e)
  find_key i (y ∷ ys) x e = go (eqb (key y) i) refl e (find_key i ys x)
    where
      go : (t : Bool) → eqb (key y) i ≡ t → cond t (some y) (find key i ys) ≡ some x → (find key i ys ≡ some x → key x ≡ i) → key x ≡ i
      go true q e' r = ap key (sym (some-injective _ _ e')) ∙ eqb-true (key y) i q
      go false q e' r = r e'

  pub find_all : (P : A → Type 0) (i : ℕ) (xs : List A) (x : A) → All P xs → find key i xs ≡ some x → P x
  find_all P i [] x h e = absurd (none-ne-some _ e)
  find_all P i (y ∷ ys) x h e = go (eqb (key y) i) e (find_all P i ys x h.1)
    where
      go : (t : Bool) → cond t (some y) (find key i ys) ≡ some x → (find key i ys ≡ some x → P x) → P x
      go true e' r = subst P (some-injective _ _ e') h.0
      go false e' r = r e'

  pub find_any : (p : A → Bool) (i : ℕ) (xs : List A) (x : A) → find key i xs ≡ some x → p x ≡ true → any p xs ≡ true
  find_any p i [] x e t = absurd (none-ne-some _ e)
  find_any p i (y ∷ ys) x e t = go (eqb (key y) i) e (find_any p i ys x)
    where
      go : (s : Bool) → cond s (some y) (find key i ys) ≡ some x → (find key i ys ≡ some x → p x ≡ true → any p ys ≡ true) → p y || any p ys ≡ true
      go true e' r = or_i_l (p y) (any p ys) (rw (some-injective _ _ e') t)
      go false e' r = or_i_r (p y) (any p ys) (r e' t)

  -- in a rising list each element is the one that its key finds
  pub find_self : (lo : ℕ) (xs : List A) → Rises key lo xs → All (λ (x : A). find key (key x) xs ≡ some x) xs
  find_self lo [] h = tt
  find_self lo (x ∷ xs) h = (
    rw (eq-eqb (key x) (key x) refl) refl,
    all_above (suc (key x)) xs h.1 (omega arith) (find_self (suc (key x)) xs h.1),
  )
    where
      all_above : (l : ℕ) (ys : List A) → Rises key l ys → key x < l → All (λ (y : A). find key (key y) xs ≡ some y) ys
          → All (λ (y : A). cond (eqb (key x) (key y)) (some x) (find key (key y) xs) ≡ some y) ys
      all_above l [] r k a = tt
      all_above l (y ∷ ys) r k a = (rw (ne_eqb (key x) (key y) (λ e. omega arith)) a.0, all_above (suc (key y)) ys r.1 (omega arith) a.1)

  pub find_filter : (p : A → Bool) (i lo : ℕ) (xs : List A) → Rises key lo xs
      → find key i (filter p xs) ≡ bind (find key i xs) (λ (x : A). cond (p x) (some x) none)
  unfolding bind
  find_filter p i lo [] h = refl
  find_filter p i lo (x ∷ xs) h = go (p x) refl (eqb (key x) i) refl (find_filter p i (suc (key x)) xs h.1)
    where
      go : (s : Bool) → p x ≡ s → (t : Bool) → eqb (key x) i ≡ t
          → find key i (filter p xs) ≡ bind (find key i xs) (λ (y : A). cond (p y) (some y) none)
          → find key i (cond s (x ∷ filter p xs) (filter p xs)) ≡ bind (cond t (some x) (find key i xs)) (λ (y : A). cond (p y) (some y) none)
      go true q true e r = rw (e, q) refl
      go true q false e r = rw e r
      go false q true e r =
          let l : key x ≡ i = eqb-true (key x) i e in
          rw q (find_low i (suc (key x)) (filter p xs) (omega arith) (rises_filter p (suc (key x)) xs h.1))
      go false q false e r = r

-- under a partial function that keeps the key
module _ {A B : Type 0} (key : A → ℕ) (key' : B → ℕ) (f : A → Option B) (same : (x : A) (y : B) → f x ≡ some y → key' y ≡ key x) where
  pub rises_filter_map : (lo : ℕ) (xs : List A) → Rises key lo xs → Rises key' lo (filter_map f xs)
  unfolding filter_map
  rises_filter_map lo [] h = tt
  rises_filter_map lo (x ∷ xs) h = go (f x) refl (rises_filter_map (suc (key x)) xs h.1)
    where
      go : (o : Option B) → f x ≡ o → Rises key' (suc (key x)) (filter_map f xs) → Rises key' lo (Option-elim o (filter_map f xs) (λ b. b ∷ filter_map f xs))
      go none e r = rises_weak key' lo (suc (key x)) (filter_map f xs) (omega arith) r
      go (some y) e r = (rw (same x y e) h.0, rw (same x y e) r)

  bind_cond : (t : Bool) (x : A) (q : Option A) → bind (cond t (some x) q) f ≡ cond t (f x) (bind q f)
  unfolding bind
  bind_cond true x q = refl
  bind_cond false x q = refl

  pub find_filter_map : (i lo : ℕ) (xs : List A) → Rises key lo xs → find key' i (filter_map f xs) ≡ bind (find key i xs) f
  unfolding filter_map bind
  find_filter_map i lo [] h = refl
  find_filter_map i lo (x ∷ xs) h =
      go (eqb (key x) i) refl (f x) refl (find_filter_map i (suc (key x)) xs h.1)
      ∙ sym (bind_cond (eqb (key x) i) x (find key i xs))
    where
      go : (t : Bool) → eqb (key x) i ≡ t → (o : Option B) → f x ≡ o → find key' i (filter_map f xs) ≡ bind (find key i xs) f
          → find key' i (Option-elim o (filter_map f xs) (λ b. b ∷ filter_map f xs)) ≡ cond t o (bind (find key i xs) f)
      go true q none e r = find_low key' i (suc (key x)) (filter_map f xs) (omega (arith, eqb-true (key x) i q)) (rises_filter_map (suc (key x)) xs h.1)
      go true q (some y) e r = rw (same x y e, q) refl
      go false q none e r = r
      go false q (some y) e r = rw (same x y e, q) r

-- under a function that keeps the key
pub rises_map : {A B : Type 0} (key : A → ℕ) (key' : B → ℕ) (g : A → B) → ((x : A) → key' (g x) ≡ key x) → (lo : ℕ) (xs : List A)
    → Rises key lo xs → Rises key' lo (map g xs)
rises_map key key' g h lo [] r = tt
rises_map key key' g h lo (x ∷ xs) r = rw (h x) (r.0, rises_map key key' g h (suc (key x)) xs r.1)

pub find_map : {A B : Type 0} (key : A → ℕ) (key' : B → ℕ) (g : A → B) → ((x : A) → key' (g x) ≡ key x) → (i : ℕ) (xs : List A)
    → find key' i (map g xs) ≡ Option.map g (find key i xs)
find_map key key' g h i [] = refl
find_map {A} {B} key key' g h i (x ∷ xs) = rw (h x) (go (eqb (key x) i) (find_map key key' g h i xs))
  where
    go : (t : Bool) → find key' i (map g xs) ≡ Option.map g (find key i xs) → cond t (some (g x)) (find key' i (map g xs)) ≡ Option.map g (cond t (some x) (find key i xs))
    go true e = refl
    go false e = e

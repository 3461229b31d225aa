-- The elements that meet a test, and the images that a partial function gives, in order.
--     filter        its laws, and what any and All say of it
--     first_that     the first element that meets a test (the lowest of a rising list: first_that_lowest of Sorted)
--     length_..     how many elements meet a test, or are images
--     map           what any and All say of it
--     filter_map     its laws, and what any and All say of it (twice over: filter_map-filter_map of mathlib.Core.List)
use mathlib.Core.Path.{◌≡◌, refl, sym, ap, ap₂, ◌∙◌, subst}
use mathlib.Core.Bool.{Bool, true, false, cond, not, ◌&&◌, ◌||◌, and_comm, false≢true}
use mathlib.Core.Option.{Option, none, some, Option-elim, none-ne-some, some-ne-none, some-injective}
use mathlib.Core.List.{List, [], ◌∷◌, filter_map, map}
use mathlib.Core.Logic.{◌↔◌}
use Prim.Native.Nat.{suc, ◌+◌, ◌≤◌, ◌<◌}
use native.Mathlib.Omega.{arith}
use lib.ListN.{length}
use Rattle.lists.proofs.All.{all_of, false_any}
use Rattle.lists.proofs.Test.{or_f_l, or_f_r}
use Rattle.lists.specs.All.{All, any}
use Rattle.lists.specs.Filter.{filter, first_that, holds}

module _ {A : Type 0} where
  pub filter_congr : (p q : A → Bool) (xs : List A) → All (λ (x : A). p x ≡ q x) xs → filter p xs ≡ filter q xs
  filter_congr p q [] h = refl
  filter_congr p q (x ∷ xs) h = ap₂ (λ (t : Bool) (r : List A). cond t (x ∷ r) r) h.0 (filter_congr p q xs h.1)

  pub filter_filter : (p q : A → Bool) (xs : List A) → filter q (filter p xs) ≡ filter (λ (x : A). p x && q x) xs
  filter_filter p q [] = refl
  filter_filter p q (x ∷ xs) = go (p x) (filter_filter p q xs)
    where
      go : (t : Bool) → filter q (filter p xs) ≡ filter (λ (y : A). p y && q y) xs
          → filter q (cond t (x ∷ filter p xs) (filter p xs)) ≡ cond (t && q x) (x ∷ filter (λ (y : A). p y && q y) xs) (filter (λ (y : A). p y && q y) xs)
      go true e = ap (λ (r : List A). cond (q x) (x ∷ r) r) e
      go false e = e

  pub filter_all : (p : A → Bool) (xs : List A) → All (λ (x : A). p x ≡ true) xs → filter p xs ≡ xs
  filter_all p [] h = refl
  filter_all p (x ∷ xs) h = rw h.0 (ap (◌∷◌ x) (filter_all p xs h.1))

  pub length_filter : (p : A → Bool) (xs : List A) → length (filter p xs) ≤ length xs
  length_filter p [] = omega arith
  length_filter p (x ∷ xs) = go (p x) (length_filter p xs)
    where
      go : (t : Bool) → length (filter p xs) ≤ length xs → length (cond t (x ∷ filter p xs) (filter p xs)) ≤ suc (length xs)
      go true h = omega arith
      go false h = omega arith

  pub filter_some : (p : A → Bool) (xs : List A) → any p xs ≡ true → 0 < length (filter p xs)
  filter_some p [] e = absurd (false≢true e)
  filter_some p (x ∷ xs) e = go (p x) e (filter_some p xs)
    where
      go : (t : Bool) → t || any p xs ≡ true → (any p xs ≡ true → 0 < length (filter p xs)) → 0 < length (cond t (x ∷ filter p xs) (filter p xs))
      go true h r = omega arith
      go false h r = r h

  pub filter_none : (p : A → Bool) (xs : List A) → any p xs ≡ false → filter p xs ≡ []
  filter_none p [] e = refl
  filter_none p (x ∷ xs) e = rw (or_f_l (p x) (any p xs) e) (filter_none p xs (or_f_r (p x) (any p xs) e))

  pub any_filter : (p q : A → Bool) (xs : List A) → any q (filter p xs) ≡ any (λ (x : A). p x && q x) xs
  any_filter p q [] = refl
  any_filter p q (x ∷ xs) = go (p x) (any_filter p q xs)
    where
      go : (t : Bool) → any q (filter p xs) ≡ any (λ (y : A). p y && q y) xs
          → any q (cond t (x ∷ filter p xs) (filter p xs)) ≡ (t && q x) || any (λ (y : A). p y && q y) xs
      go true e = ap (◌||◌ (q x)) e
      go false e = e

  pub all_filter : (P : A → Type 0) (p : A → Bool) (xs : List A) → All (λ (x : A). p x ≡ true → P x) xs → All P (filter p xs)
  all_filter P p [] h = tt
  all_filter P p (x ∷ xs) h = go (p x) h.0 (all_filter P p xs h.1)
    where
      go : (t : Bool) → (t ≡ true → P x) → All P (filter p xs) → All P (cond t (x ∷ filter p xs) (filter p xs))
      go true f r = (f refl, r)
      go false f r = r

  -- and back
  pub filtered_all : (P : A → Type 0) (p : A → Bool) (xs : List A) → All P (filter p xs) → All (λ (x : A). p x ≡ true → P x) xs
  filtered_all P p [] h = tt
  filtered_all P p (x ∷ xs) h = go (p x) h (filtered_all P p xs)
    where
      go : (t : Bool) → All P (cond t (x ∷ filter p xs) (filter p xs)) → (All P (filter p xs) → All (λ (y : A). p y ≡ true → P y) xs)
          → (t ≡ true → P x) × All (λ (y : A). p y ≡ true → P y) xs
      go true k r = (λ e. k.0, r k.1)
      go false k r = (λ e. absurd (false≢true e), r k)

  -- the first element that meets a test meets it, and has what every element has
  pub first_that_meets : (P : A → Type 0) (p : A → Bool) (xs : List A) (x : A) → All P xs → first_that p xs ≡ some x → P x × (p x ≡ true)
  first_that_meets P p [] x h e = absurd (none-ne-some _ e)
  first_that_meets P p (y ∷ ys) x h e = go (p y) refl e (first_that_meets P p ys x h.1)
    where
      go : (t : Bool) → p y ≡ t → cond t (some y) (first_that p ys) ≡ some x → (first_that p ys ≡ some x → P x × (p x ≡ true)) → P x × (p x ≡ true)
      go true q z r =
          let s = some-injective _ _ z in
          (subst P s h.0, subst (λ (v : A). p v ≡ true) s q)
      go false q z r = r z

  -- there is none where no element meets it
  pub first_that_none : (p : A → Bool) (xs : List A) → first_that p xs ≡ none → any p xs ≡ false
  first_that_none p [] e = refl
  first_that_none p (x ∷ xs) e = go (p x) e (first_that_none p xs)
    where
      go : (t : Bool) → cond t (some x) (first_that p xs) ≡ none → (first_that p xs ≡ none → any p xs ≡ false) → t || any p xs ≡ false
      go true z r = absurd (some-ne-none _ z)
      go false z r = r z

  pub none_first_that : (p : A → Bool) (xs : List A) → All (λ (x : A). p x ≡ false) xs → first_that p xs ≡ none
  none_first_that p [] h = refl
  none_first_that p (x ∷ xs) h = rw h.0 (none_first_that p xs h.1)

module _ {A B : Type 0} where
  pub map_congr : (f g : A → B) (xs : List A) → All (λ (x : A). f x ≡ g x) xs → map f xs ≡ map g xs
  map_congr f g [] h = refl
  map_congr f g (x ∷ xs) h = ap₂ ◌∷◌ h.0 (map_congr f g xs h.1)

  pub all_mapped : (P : B → Type 0) (f : A → B) (xs : List A) → All (λ (x : A). P (f x)) xs → All P (map f xs)
  all_mapped P f [] h = tt
  all_mapped P f (x ∷ xs) h = (h.0, all_mapped P f xs h.1)

  pub mapped_all : (P : B → Type 0) (f : A → B) (xs : List A) → All P (map f xs) → All (λ (x : A). P (f x)) xs
  mapped_all P f [] h = tt
  mapped_all P f (x ∷ xs) h = (h.0, mapped_all P f xs h.1)

  pub any_mapped : (p : B → Bool) (f : A → B) (xs : List A) → any p (map f xs) ≡ any (λ (x : A). p (f x)) xs
  any_mapped p f [] = refl
  any_mapped p f (x ∷ xs) = ap (◌||◌ (p (f x))) (any_mapped p f xs)

  -- the images of the elements that meet a test
  pub map_filter : (f : A → B) (p : A → Bool) (xs : List A) → map f (filter p xs) ≡ filter_map (λ (x : A). cond (p x) (some (f x)) none) xs
  unfolding filter_map
  map_filter f p [] = refl
  map_filter f p (x ∷ xs) = go (p x) (map_filter f p xs)
    where
      go : (t : Bool) → map f (filter p xs) ≡ filter_map (λ (y : A). cond (p y) (some (f y)) none) xs
          → map f (cond t (x ∷ filter p xs) (filter p xs))
          ≡ Option-elim (cond t (some (f x)) none) (filter_map (λ (y : A). cond (p y) (some (f y)) none) xs) (λ b. b ∷ filter_map (λ (y : A). cond (p y) (some (f y)) none) xs)
      go true e = ap (◌∷◌ (f x)) e
      go false e = e

  pub filter_map_congr : (f g : A → Option B) (xs : List A) → All (λ (x : A). f x ≡ g x) xs → filter_map f xs ≡ filter_map g xs
  unfolding filter_map
  filter_map_congr f g [] h = refl
  filter_map_congr f g (x ∷ xs) h = ap₂ (λ (o : Option B) (r : List B). Option-elim o r (λ b. b ∷ r)) h.0 (filter_map_congr f g xs h.1)

  pub length_filter_map : (f : A → Option B) (xs : List A) → length (filter_map f xs) ≤ length xs
  unfolding filter_map
  length_filter_map f [] = omega arith
  length_filter_map f (x ∷ xs) = go (f x) (length_filter_map f xs)
    where
      go : (o : Option B) → length (filter_map f xs) ≤ length xs → length (Option-elim o (filter_map f xs) (λ b. b ∷ filter_map f xs)) ≤ suc (length xs)
      go none h = omega arith
      go (some y) h = omega arith

  pub any_filter_map : (q : B → Bool) (f : A → Option B) (xs : List A) → any q (filter_map f xs) ≡ any (λ (x : A). holds q (f x)) xs
  unfolding filter_map
  any_filter_map q f [] = refl
  any_filter_map q f (x ∷ xs) = go (f x) (any_filter_map q f xs)
    where
      go : (o : Option B) → any q (filter_map f xs) ≡ any (λ (y : A). holds q (f y)) xs
          → any q (Option-elim o (filter_map f xs) (λ b. b ∷ filter_map f xs)) ≡ holds q o || any (λ (y : A). holds q (f y)) xs
      go none e = e
      go (some y) e = ap (◌||◌ (q y)) e

  pub all_filter_map : (P : B → Type 0) (f : A → Option B) (xs : List A) → All (λ (x : A). (y : B) → f x ≡ some y → P y) xs → All P (filter_map f xs)
  unfolding filter_map
  all_filter_map P f [] h = tt
  all_filter_map P f (x ∷ xs) h = go (f x) h.0 (all_filter_map P f xs h.1)
    where
      go : (o : Option B) → ((y : B) → o ≡ some y → P y) → All P (filter_map f xs) → All P (Option-elim o (filter_map f xs) (λ b. b ∷ filter_map f xs))
      go none k r = r
      go (some y) k r = (k y refl, r)

  -- and back: what holds of the images holds of what each element gives
  pub filter_map_all : (P : B → Type 0) (f : A → Option B) (xs : List A) → All P (filter_map f xs) → All (λ (x : A). (y : B) → f x ≡ some y → P y) xs
  unfolding filter_map
  filter_map_all P f [] h = tt
  filter_map_all P f (x ∷ xs) h = go (f x) refl h (filter_map_all P f xs)
    where
      go : (o : Option B) → f x ≡ o → All P (Option-elim o (filter_map f xs) (λ b. b ∷ filter_map f xs))
          → (All P (filter_map f xs) → All (λ (z : A). (y : B) → f z ≡ some y → P y) xs)
          → ((y : B) → f x ≡ some y → P y) × All (λ (z : A). (y : B) → f z ≡ some y → P y) xs
      go none q k r = (λ y e. absurd (none-ne-some _ (sym q ∙ e)), r k)
      go (some z) q k r = (λ y e. subst P (some-injective _ _ (sym q ∙ e)) k.0, r k.1)

module _ {A : Type 0} where
  pub filter_swap : (p q : A → Bool) (xs : List A) → filter q (filter p xs) ≡ filter p (filter q xs)
  filter_swap p q xs = filter_filter p q xs
      ∙ filter_congr (λ (x : A). p x && q x) (λ (x : A). q x && p x) xs (all_of xs (λ x. and_comm (p x) (q x)))
      ∙ sym (filter_filter q p xs)

  -- no element meets the test
  none_counted : (p : A → Bool) (xs : List A) → length (filter p xs) ≡ 0 → All (λ (x : A). p x ≡ false) xs
  none_counted p [] e = tt
  none_counted p (x ∷ xs) e = go (p x) refl e (none_counted p xs)
    where
      go : (t : Bool) → p x ≡ t → length (cond t (x ∷ filter p xs) (filter p xs)) ≡ 0
          → (length (filter p xs) ≡ 0 → All (λ (y : A). p y ≡ false) xs) → (p x ≡ false) × All (λ (y : A). p y ≡ false) xs
      go true q z r = absurd (omega arith)
      go false q z r = (q, r z)

  pub length_none : (p : A → Bool) (xs : List A) → (length (filter p xs) ≡ 0) ↔ All (λ (x : A). p x ≡ false) xs
  length_none p xs = (none_counted p xs, λ h. ap length (filter_none p xs (false_any p xs h)))

  -- every element that meets the first test meets the second
  pub length_within : (p q : A → Bool) (xs : List A) → All (λ (x : A). p x ≡ true → q x ≡ true) xs → length (filter p xs) ≤ length (filter q xs)
  length_within p q [] h = omega arith
  length_within p q (x ∷ xs) h = go (p x) (q x) h.0 (length_within p q xs h.1)
    where
      go : (s t : Bool) → (s ≡ true → t ≡ true) → length (filter p xs) ≤ length (filter q xs)
          → length (cond s (x ∷ filter p xs) (filter p xs)) ≤ length (cond t (x ∷ filter q xs) (filter q xs))
      go true true f l = omega arith
      go true false f l = absurd (false≢true (f refl))
      go false true f l = omega arith
      go false false f l = l

  -- and one meets the second alone
  pub length_fewer : (p q : A → Bool) (xs : List A) → All (λ (x : A). p x ≡ true → q x ≡ true) xs → any (λ (x : A). q x && not (p x)) xs ≡ true
      → length (filter p xs) < length (filter q xs)
  length_fewer p q [] h e = absurd (false≢true e)
  length_fewer p q (x ∷ xs) h e = go (p x) (q x) h.0 e (length_within p q xs h.1) (length_fewer p q xs h.1)
    where
      go : (s t : Bool) → (s ≡ true → t ≡ true) → (t && not s) || any (λ (y : A). q y && not (p y)) xs ≡ true
          → length (filter p xs) ≤ length (filter q xs)
          → (any (λ (y : A). q y && not (p y)) xs ≡ true → length (filter p xs) < length (filter q xs))
          → length (cond s (x ∷ filter p xs) (filter p xs)) < length (cond t (x ∷ filter q xs) (filter q xs))
      go true true f z l r = let k : length (filter p xs) < length (filter q xs) = r z in omega arith
      go true false f z l r = absurd (false≢true (f refl))
      go false true f z l r = omega arith
      go false false f z l r = r z

  -- each element meets the test or does not
  pub length_split : (p : A → Bool) (xs : List A) → length (filter p xs) + length (filter (λ (x : A). not (p x)) xs) ≡ length xs
  length_split p [] = refl
  length_split p (x ∷ xs) = go (p x) (length_split p xs)
    where
      go : (t : Bool) → length (filter p xs) + length (filter (λ (y : A). not (p y)) xs) ≡ length xs
          → length (cond t (x ∷ filter p xs) (filter p xs))
          + length (cond (not t) (x ∷ filter (λ (y : A). not (p y)) xs) (filter (λ (y : A). not (p y)) xs)) ≡ suc (length xs)
      go true e = omega arith
      go false e = omega arith

-- the images that meet a test
pub filter_mapped : {A B : Type 0} (f : A → B) (p : B → Bool) (xs : List A) → filter p (map f xs) ≡ map f (filter (λ (x : A). p (f x)) xs)
filter_mapped f p [] = refl
filter_mapped {A} f p (x ∷ xs) = go (p (f x)) (filter_mapped f p xs)
  where
    go : (t : Bool) → filter p (map f xs) ≡ map f (filter (λ (y : A). p (f y)) xs)
        → cond t (f x ∷ filter p (map f xs)) (filter p (map f xs))
        ≡ map f (cond t (x ∷ filter (λ (y : A). p (f y)) xs) (filter (λ (y : A). p (f y)) xs))
    go true e = ap (◌∷◌ (f x)) e
    go false e = e

-- how many images there are that meet a test, and how many at all
module _ {A B : Type 0} where
  pub length_kept : (p : B → Bool) (f : A → Option B) (xs : List A) → length (filter p (filter_map f xs)) ≡ length (filter (λ (x : A). holds p (f x)) xs)
  unfolding filter_map
  length_kept p f [] = refl
  length_kept p f (x ∷ xs) = go (f x) (length_kept p f xs)
    where
      same : (t : Bool) (y : B) (ys : List B) (zs : List A) → length ys ≡ length zs → length (cond t (y ∷ ys) ys) ≡ length (cond t (x ∷ zs) zs)
      same true y ys zs e = ap suc e
      same false y ys zs e = e

      go : (o : Option B) → length (filter p (filter_map f xs)) ≡ length (filter (λ (z : A). holds p (f z)) xs)
          → length (filter p (Option-elim o (filter_map f xs) (λ y. y ∷ filter_map f xs)))
          ≡ length (cond (holds p o) (x ∷ filter (λ (z : A). holds p (f z)) xs) (filter (λ (z : A). holds p (f z)) xs))
      go none e = e
      go (some y) e = same (p y) y (filter p (filter_map f xs)) (filter (λ (z : A). holds p (f z)) xs) e

  pub length_images : (f : A → Option B) (xs : List A) → length (filter_map f xs) ≡ length (filter (λ (x : A). holds (λ (y : B). true) (f x)) xs)
  length_images f xs = ap length (sym (filter_all (λ (y : B). true) (filter_map f xs) (all (filter_map f xs)))) ∙ length_kept (λ (y : B). true) f xs
    where
      all : (ys : List B) → All (λ (y : B). true ≡ true) ys
      all [] = tt
      all (y ∷ ys) = (refl, all ys)

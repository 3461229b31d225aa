-- The union of two rising lists, known by what each key finds.
--     rising_ext                    rising lists are equal where every key finds the same
--     rises_union, find_union       the union rises, and finds at a key what the two lists find there
--     all_union, length_union       what every element of both has; how many there are
--     union_assoc, union_comm       three lists in either grouping; two in either order
use mathlib.Core.Path.{◌≡◌, refl, sym, ap, ap₂, ◌∙◌}
use mathlib.Core.Bool.{Bool, true, false, cond}
use mathlib.Core.Option.{Option, none, some, none-ne-some, some-injective}
use mathlib.Core.List.{List, [], ◌∷◌}
use Prim.Native.Nat.{ℕ, suc, ◌+◌, ◌≤◌, ◌<◌}
use native.Mathlib.Omega.{arith}
use lib.Dec.{eqb, ltb}
use lib.ListN.{length}
use borrow.Author.Tests.{eqb-true, eq-eqb, ne_eqb, ltb-true, ltb-false}
use Rattle.lists.specs.All.{All}
use Rattle.lists.specs.Answer.{is_some}
use Rattle.lists.specs.Filter.{filter}
use Rattle.lists.specs.Sorted.{find, Rises}
use Rattle.lists.specs.Union.{either, into, union}
use Rattle.lists.proofs.All.{all_map}
use Rattle.lists.proofs.Filter.{filter_congr}
use Rattle.lists.proofs.Sorted.{rises_above, find_low}

module _ {A : Type 0} (key : A → ℕ) where
  find_head : (x : A) (xs : List A) → find key (key x) (x ∷ xs) ≡ some x
  find_head x xs = rw (eq-eqb (key x) (key x) refl) refl

  pub rising_ext : (lo : ℕ) (xs ys : List A) → Rises key lo xs → Rises key lo ys → ((i : ℕ) → find key i xs ≡ find key i ys) → xs ≡ ys
  rising_ext lo [] [] h k f = refl
  rising_ext lo [] (y ∷ ys) h k f = absurd (none-ne-some _ (f (key y) ∙ find_head y ys))
  rising_ext lo (x ∷ xs) [] h k f = absurd (none-ne-some _ (sym (f (key x)) ∙ find_head x xs))
  rising_ext lo (x ∷ xs) (y ∷ ys) h k f = go (ltb (key x) (key y)) refl (ltb (key y) (key x)) refl (λ zs r g. rising_ext (suc (key x)) xs zs h.1 r g)
    where
      go : (s : Bool) → ltb (key x) (key y) ≡ s → (t : Bool) → ltb (key y) (key x) ≡ t
          → ((zs : List A) → Rises key (suc (key x)) zs → ((i : ℕ) → find key i xs ≡ find key i zs) → xs ≡ zs)
          → x ∷ xs ≡ y ∷ ys
      go true p t q r = absurd (none-ne-some _ (sym (find_low key (key x) (key y) (y ∷ ys) (ltb-true (key x) (key y) p) (omega arith, k.1)) ∙ sym (f (key x)) ∙ find_head x xs))
      go false p true q r = absurd (none-ne-some _ (sym (find_low key (key y) (key x) (x ∷ xs) (ltb-true (key y) (key x) q) (omega arith, h.1)) ∙ f (key y) ∙ find_head y ys))
      go false p false q r = ap₂ ◌∷◌ (some-injective _ _ (sym (find_head x xs) ∙ f (key x) ∙ ap (λ (n : ℕ). find key n (y ∷ ys)) e ∙ find_head y ys)) (r ys (rw e k.1) part)
        where
          e : key x ≡ key y
          e = omega (arith, ltb-false (key x) (key y) p, ltb-false (key y) (key x) q)

          part : (i : ℕ) → find key i xs ≡ find key i ys
          part i = tail (eqb (key x) i) refl
            where
              tail : (s : Bool) → eqb (key x) i ≡ s → find key i xs ≡ find key i ys
              tail true c = let l : key x ≡ i = eqb-true (key x) i c in
                  find_low key i (suc (key x)) xs (omega arith) h.1 ∙ sym (find_low key i (suc (key y)) ys (omega (arith, e)) k.1)
              tail false c = let c' : eqb (key y) i ≡ false = ap (λ (n : ℕ). eqb n i) (sym e) ∙ c in rw (c, c') at (f i)

module _ {A : Type 0} (key : A → ℕ) (meet : A → A → A) (kept : (x y : A) → key x ≡ key y → key (meet x y) ≡ key x) where
  rises_into : (x : A) (rest : List A → List A) → ((zs : List A) → Rises key (suc (key x)) zs → Rises key (suc (key x)) (rest zs))
      → (lo : ℕ) → lo ≤ key x → (ys : List A) → Rises key lo ys → Rises key lo (into key meet x rest ys)
  rises_into x rest hk lo l [] h = (l, hk [] tt)
  rises_into x rest hk lo l (y ∷ ys) h = go (ltb (key x) (key y)) refl (ltb (key y) (key x)) refl (λ m. rises_into x rest hk (suc (key y)) m ys h.1)
    where
      go : (s : Bool) → ltb (key x) (key y) ≡ s → (t : Bool) → ltb (key y) (key x) ≡ t
          → (suc (key y) ≤ key x → Rises key (suc (key y)) (into key meet x rest ys))
          → Rises key lo (cond s (x ∷ rest (y ∷ ys)) (cond t (y ∷ into key meet x rest ys) (meet x y ∷ rest ys)))
      go true p t q r = (l, hk (y ∷ ys) (ltb-true (key x) (key y) p, h.1))
      go false p true q r = (h.0, r (ltb-true (key y) (key x) q))
      go false p false q r =
          let e : key x ≡ key y = omega (arith, ltb-false (key x) (key y) p, ltb-false (key y) (key x) q) in
          let m : key (meet x y) ≡ key x = kept x y e in
          (rw m l, rw m (hk ys (rw e h.1)))

  pub rises_union : (lo : ℕ) (xs ys : List A) → Rises key lo xs → Rises key lo ys → Rises key lo (union key meet xs ys)
  rises_union lo [] ys h k = k
  rises_union lo (x ∷ xs) ys h k = rises_into x (λ (zs : List A). union key meet xs zs) (λ zs r. rises_union (suc (key x)) xs zs h.1 r) lo h.0 ys k

  -- what x and the elements behind it find, met with what a list finds
  abbrev found : ℕ → A → Option A → Option A
  found i x o = cond (eqb (key x) i) (some x) o

  find_into : (i : ℕ) (x : A) (rest : List A → List A) (o : Option A) → (i ≤ key x → o ≡ none)
      → ((zs : List A) → Rises key (suc (key x)) zs → find key i (rest zs) ≡ either meet o (find key i zs))
      → (lo : ℕ) (ys : List A) → Rises key lo ys → find key i (into key meet x rest ys) ≡ either meet (found i x o) (find key i ys)
  find_into i x rest o ho hk lo [] h = alone (eqb (key x) i) refl
    where
      alone : (s : Bool) → eqb (key x) i ≡ s → cond s (some x) (find key i (rest [])) ≡ either meet (cond s (some x) o) none
      alone true p = refl
      alone false p = hk [] tt
  find_into i x rest o ho hk lo (y ∷ ys) h = go (ltb (key x) (key y)) refl (ltb (key y) (key x)) refl (find_into i x rest o ho hk (suc (key y)) ys h.1)
    where
      -- x first
      before : key x < key y → (s : Bool) → eqb (key x) i ≡ s → cond s (some x) (find key i (rest (y ∷ ys))) ≡ either meet (cond s (some x) o) (find key i (y ∷ ys))
      before l true p = let e : key x ≡ i = eqb-true (key x) i p in rw (find_low key i (key y) (y ∷ ys) (omega arith) (omega arith, h.1)) refl
      before l false p = hk (y ∷ ys) (l, h.1)

      -- y first
      behind : key y < key x → (t : Bool) → eqb (key y) i ≡ t → find key i (into key meet x rest ys) ≡ either meet (found i x o) (find key i ys)
          → cond t (some y) (find key i (into key meet x rest ys)) ≡ either meet (found i x o) (cond t (some y) (find key i ys))
      behind l true p r =
          let e : key y ≡ i = eqb-true (key y) i p in
          rw (nothing (eqb (key x) i) refl (omega arith)) refl
        where
          nothing : (s : Bool) → eqb (key x) i ≡ s → i < key x → cond s (some x) o ≡ none
          nothing true q m = absurd (let z : key x ≡ i = eqb-true (key x) i q in omega arith)
          nothing false q m = ho (omega arith)
      behind l false p r = r

      -- both at once
      together : key x ≡ key y → (s : Bool) → eqb (key x) i ≡ s
          → cond s (some (meet x y)) (find key i (rest ys)) ≡ either meet (cond s (some x) o) (cond s (some y) (find key i ys))
      together e true p = refl
      together e false p = hk ys (rw e h.1)

      go : (s : Bool) → ltb (key x) (key y) ≡ s → (t : Bool) → ltb (key y) (key x) ≡ t
          → find key i (into key meet x rest ys) ≡ either meet (found i x o) (find key i ys)
          → find key i (cond s (x ∷ rest (y ∷ ys)) (cond t (y ∷ into key meet x rest ys) (meet x y ∷ rest ys))) ≡ either meet (found i x o) (find key i (y ∷ ys))
      go true p t q r = before (ltb-true (key x) (key y) p) (eqb (key x) i) refl
      go false p true q r = behind (ltb-true (key y) (key x) q) (eqb (key y) i) refl r
      go false p false q r =
          let e : key x ≡ key y = omega (arith, ltb-false (key x) (key y) p, ltb-false (key y) (key x) q) in
          rw (kept x y e, ← e) (together e (eqb (key x) i) refl)

  pub find_union : (i lo : ℕ) (xs ys : List A) → Rises key lo xs → Rises key lo ys
      → find key i (union key meet xs ys) ≡ either meet (find key i xs) (find key i ys)
  find_union i lo [] ys h k = refl
  find_union i lo (x ∷ xs) ys h k = find_into i x (λ (zs : List A). union key meet xs zs) (find key i xs)
      (λ l. find_low key i (suc (key x)) xs (omega arith) h.1)
      (λ zs r. find_union i (suc (key x)) xs zs h.1 r) lo ys k

  -- in either grouping, where `meet` may be taken so
  pub union_assoc : ((x y z : A) → meet (meet x y) z ≡ meet x (meet y z)) → (lo : ℕ) (xs ys zs : List A)
      → Rises key lo xs → Rises key lo ys → Rises key lo zs
      → union key meet (union key meet xs ys) zs ≡ union key meet xs (union key meet ys zs)
  union_assoc assoc lo xs ys zs h k l = rising_ext key lo _ _
      (rises_union lo (union key meet xs ys) zs (rises_union lo xs ys h k) l)
      (rises_union lo xs (union key meet ys zs) h (rises_union lo ys zs k l)) at
    where
      three : (a b c : Option A) → either meet (either meet a b) c ≡ either meet a (either meet b c)
      three none b c = refl
      three (some x) none c = refl
      three (some x) (some y) none = refl
      three (some x) (some y) (some z) = ap some (assoc x y z)

      at : (i : ℕ) → find key i (union key meet (union key meet xs ys) zs) ≡ find key i (union key meet xs (union key meet ys zs))
      at i =
          find_union i lo (union key meet xs ys) zs (rises_union lo xs ys h k) l
          ∙ ap (λ (o : Option A). either meet o (find key i zs)) (find_union i lo xs ys h k)
          ∙ three (find key i xs) (find key i ys) (find key i zs)
          ∙ sym (find_union i lo xs (union key meet ys zs) h (rises_union lo ys zs k l) ∙ ap (either meet (find key i xs)) (find_union i lo ys zs k l))

  -- in either order, where it does not matter which of two elements with one key stands first
  pub union_comm : (lo : ℕ) (xs ys : List A) → Rises key lo xs → Rises key lo ys
      → ((i : ℕ) (x y : A) → find key i xs ≡ some x → find key i ys ≡ some y → meet x y ≡ meet y x)
      → union key meet xs ys ≡ union key meet ys xs
  union_comm lo xs ys h k comm = rising_ext key lo _ _ (rises_union lo xs ys h k) (rises_union lo ys xs k h)
      (λ i. find_union i lo xs ys h k ∙ swap i (find key i xs) refl (find key i ys) refl ∙ sym (find_union i lo ys xs k h))
    where
      swap : (i : ℕ) (a : Option A) → find key i xs ≡ a → (b : Option A) → find key i ys ≡ b → either meet a b ≡ either meet b a
      swap i none p none q = refl
      swap i none p (some y) q = refl
      swap i (some x) p none q = refl
      swap i (some x) p (some y) q = ap some (comm i x y p q)

module _ {A : Type 0} (key : A → ℕ) (meet : A → A → A) where
  -- what every element of both lists has, where it goes over to what stands for two
  all_into : (P : A → Type 0) → ((x y : A) → P x → P y → P (meet x y)) → (x : A) (rest : List A → List A)
      → P x → ((zs : List A) → All P zs → All P (rest zs)) → (ys : List A) → All P ys → All P (into key meet x rest ys)
  all_into P m x rest p r [] h = (p, r [] tt)
  all_into P m x rest p r (y ∷ ys) h = go (ltb (key x) (key y)) (ltb (key y) (key x)) (all_into P m x rest p r ys h.1)
    where
      go : (s t : Bool) → All P (into key meet x rest ys) → All P (cond s (x ∷ rest (y ∷ ys)) (cond t (y ∷ into key meet x rest ys) (meet x y ∷ rest ys)))
      go true t q = (p, r (y ∷ ys) h)
      go false true q = (h.0, q)
      go false false q = (m x y p h.0, r ys h.1)

  pub all_union : (P : A → Type 0) → ((x y : A) → P x → P y → P (meet x y)) → (xs ys : List A) → All P xs → All P ys → All P (union key meet xs ys)
  all_union P m [] ys h k = k
  all_union P m (x ∷ xs) ys h k = all_into P m x (λ (zs : List A). union key meet xs zs) h.0 (λ zs r. all_union P m xs zs h.1 r) ys k

-- how many elements: those of both lists, with two that have one key counted once
module _ {A : Type 0} (key : A → ℕ) (meet : A → A → A) where
  -- how many elements of xs have a key that is in ys
  abbrev pub shared : List A → List A → ℕ
  shared xs ys = length (filter (λ (x : A). is_some (find key (key x) ys)) xs)

  -- an element below all of xs is shared by none of them
  shared_past : (lo : ℕ) (xs : List A) (y : A) (ys : List A) → key y < lo → Rises key lo xs → shared xs (y ∷ ys) ≡ shared xs ys
  shared_past lo xs y ys l h = ap length (filter_congr _ _ xs
      (all_map xs (λ x m. rw (ne_eqb (key y) (key x) (λ e. omega arith)) refl) (rises_above key lo xs h)))

  length_into : (x : A) (xs : List A) (rest : List A → List A) → Rises key (suc (key x)) xs
      → ((zs : List A) → Rises key (suc (key x)) zs → length (rest zs) + shared xs zs ≡ length xs + length zs)
      → (lo : ℕ) (ys : List A) → Rises key lo ys → length (into key meet x rest ys) + shared (x ∷ xs) ys ≡ suc (length xs) + length ys
  length_into x xs rest r hk lo [] h = omega (arith, hk [] tt)
  length_into x xs rest r hk lo (y ∷ ys) h = go (ltb (key x) (key y)) refl (ltb (key y) (key x)) refl (length_into x xs rest r hk (suc (key y)) ys h.1)
    where
      go : (s : Bool) → ltb (key x) (key y) ≡ s → (t : Bool) → ltb (key y) (key x) ≡ t
          → length (into key meet x rest ys) + shared (x ∷ xs) ys ≡ suc (length xs) + length ys
          → length (cond s (x ∷ rest (y ∷ ys)) (cond t (y ∷ into key meet x rest ys) (meet x y ∷ rest ys))) + shared (x ∷ xs) (y ∷ ys) ≡ suc (length xs) + suc (length ys)
      go true p t q e =
          let l = ltb-true (key x) (key y) p in
          rw (find_low key (key x) (key y) (y ∷ ys) l (omega arith, h.1)) (omega (arith, hk (y ∷ ys) (l, h.1)))
      go false p true q e =
          let l = ltb-true (key y) (key x) q in
          omega (arith, e, shared_past (key x) (x ∷ xs) y ys l (omega arith, r))
      go false p false q e =
          let s : key x ≡ key y = omega (arith, ltb-false (key x) (key y) p, ltb-false (key y) (key x) q) in
          rw (eq-eqb (key y) (key x) (sym s)) (omega (arith, hk ys (rw s h.1), shared_past (suc (key x)) xs y ys (omega arith) r))

  pub length_union : (lo : ℕ) (xs ys : List A) → Rises key lo xs → Rises key lo ys
      → length (union key meet xs ys) + shared xs ys ≡ length xs + length ys
  length_union lo [] ys h k = omega arith
  length_union lo (x ∷ xs) ys h k = length_into x xs (λ (zs : List A). union key meet xs zs) h.1
      (λ zs r. length_union (suc (key x)) xs zs h.1 r) lo ys k

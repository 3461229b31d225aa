-- The rows of joining's table, each by what it says of the two networks.
--     Finds, finds_some, finds_none     a place that is the lowest id of which something holds; it is known by that
--     finds_same, finds_lower           two such places; the lower of two
--     none_once, finds_twice            21
--     lower_none, matched_all, ..       22
--     table_none, table_some            23
--     over_none, over_some              24
use mathlib.Core.Path.{◌≡◌, refl, sym, ap, ◌∙◌, subst}
use mathlib.Core.Bool.{Bool, true, false, cond, not, false≢true}
use mathlib.Core.Logic.{◌⊎◌, inl, inr, ⊎_elim}
use mathlib.Core.List.{List}
use mathlib.Core.Option.{Option, none, some, none-ne-some, some-ne-none, some-injective, map-eq-none_iff, map-eq-some_iff}
use Prim.Native.Nat.{ℕ, ◌<◌, ◌≤◌}
use native.Mathlib.Omega.{arith}
use lib.Dec.{leb, ltb}
use borrow.Author.Tests.{leb-true, leb-false, ltb-true, ltb-false, not-true, not-false}
use Rattle.lists.specs.All.{All, all_alike}
use Rattle.lists.proofs.All.{all_map, any_false, all_alike_self, all_alike_true}
use Rattle.lists.specs.Filter.{first_that}
use Rattle.lists.proofs.Filter.{first_that_meets, first_that_none}
use Rattle.lists.specs.Sorted.{Rises}
use Rattle.lists.proofs.Sorted.{find_key, first_that_lowest}
use Rattle.lists.proofs.Test.{le_or_lt}
use Rattle.networks.specs.Algebra.{Algebra}
use Rattle.networks.specs.Network.{Own, Input, Box, own, input, Network, NetworkOver, box_id, is_own_box, own_boxes, inputs, box, owns}
use Rattle.networks.specs.Lowest.{lowest}
use Rattle.networks.specs.Join.{lower_of, over_bound, promises, matched, unmatched}
use Rattle.networks.specs.Joint.{LowestId, NoId, OwnedTwice, Matches, Unmatched, EitherUnmatched}
use Rattle.networks.proofs.Laws.Boxes.{own_fact, own_rise, input_there, input_found, input_rise}
use Rattle.networks.proofs.Laws.Named.{lowest_some, named_box}
use Rattle.networks.proofs.Laws.Lowest.{lowest_none}
use Rattle.networks.proofs.Laws.Joins.{OwnOnce}

-- a place is the lowest id of which Q holds, and none where Q holds of none
pub record Finds (Q : ℕ → Type 0) (place : Option ℕ) : Type 0 where
  pub found : (i : ℕ) → place ≡ some i → LowestId Q i
  pub missed : place ≡ none → NoId Q

one_lowest : (Q : ℕ → Type 0) (i j : ℕ) → LowestId Q i → LowestId Q j → i ≡ j
one_lowest Q i j h k = ⊎_elim
    (λ (l : i ≤ j). ⊎_elim (λ (m : j ≤ i). omega arith) (λ (m : i < j). absurd (k.1 i m h.0)) (le_or_lt j i))
    (λ (m : j < i). absurd (h.1 j m k.0))
    (le_or_lt i j)

module _ (Q : ℕ → Type 0) (place : Option ℕ) (finds : Finds Q place) where
  pub finds_some : (i : ℕ) → LowestId Q i → place ≡ some i
  finds_some i h = go place refl
    where
      go : (o : Option ℕ) → place ≡ o → o ≡ some i
      go none e = absurd (finds.missed e i h.0)
      go (some j) e = ap some (one_lowest Q j i (finds.found j e) h)

  pub finds_none : NoId Q → place ≡ none
  finds_none h = go place refl
    where
      go : (o : Option ℕ) → place ≡ o → o ≡ none
      go none e = refl
      go (some j) e = absurd (h j (finds.found j e).0)

pub finds_same : (Q S : ℕ → Type 0) (p q : Option ℕ) → Finds Q p → Finds S q → ((i : ℕ) → Q i → S i) → ((i : ℕ) → S i → Q i) → p ≡ q
finds_same Q S p q f g forth back = go q refl
  where
    go : (o : Option ℕ) → q ≡ o → p ≡ o
    go none e = finds_none Q p f (λ j h. g.missed e j (forth j h))
    go (some i) e = let h = g.found i e in finds_some Q p f i (back i h.0, λ j l k. h.1 j l (forth j k))

pub lower_none : (p q : Option ℕ) → lower_of p q ≡ none → (p ≡ none) × (q ≡ none)
lower_none none q e = (refl, e)
lower_none (some i) none e = absurd (some-ne-none _ e)
lower_none (some i) (some j) e = absurd (some-ne-none _ e)

finds_lower : (Q S : ℕ → Type 0) (p q : Option ℕ) → Finds Q p → Finds S q → Finds (λ (i : ℕ). Q i ⊎ S i) (lower_of p q)
finds_lower Q S p q f g = record {
  found = λ i e. go i p refl q refl e;
  missed = λ e j. let h = lower_none p q e in ⊎_elim (f.missed h.0 j) (g.missed h.1 j);
}
  where
    go : (i : ℕ) (o : Option ℕ) → p ≡ o → (r : Option ℕ) → q ≡ r → lower_of o r ≡ some i → LowestId (λ (k : ℕ). Q k ⊎ S k) i
    go i none a none b z = absurd (none-ne-some _ z)
    go i none a (some k) b z = let h = g.found i (b ∙ z) in (inr h.0, λ j l. ⊎_elim (f.missed a j) (h.1 j l))
    go i (some k) a none b z = let h = f.found i (a ∙ z) in (inl h.0, λ j l. ⊎_elim (h.1 j l) (g.missed b j))
    go i (some k) a (some m) b z = pick (leb k m) refl (some-injective _ _ z)
      where
        pick : (t : Bool) → leb k m ≡ t → cond t k m ≡ i → LowestId (λ (j : ℕ). Q j ⊎ S j) i
        pick true c y =
            let l = leb-true k m c in
            let h = f.found i (a ∙ ap some y) in
            let u = g.found m b in
            (inl h.0, λ j n. ⊎_elim (h.1 j n) (u.1 j (omega arith)))
        pick false c y =
            let l = leb-false k m c in
            let h = g.found i (b ∙ ap some y) in
            let u = f.found k a in
            (inr h.0, λ j n. ⊎_elim (u.1 j (omega arith)) (h.1 j n))

-- 21
pub none_once : {R P D : Type 0} (N M : Network R P D) → lowest (λ (b : Own R D). owns M b.id) (own_boxes N) ≡ none → OwnOnce N M
none_once {R} {P} {D} N M e i t = own_fact N (λ (j : ℕ). owns M j ≡ false) i (lowest_none (λ (b : Own R D). owns M b.id) (own_boxes N) e) t

-- 23
module _ {A : Type 0} (alike : A → A → Bool) (alike_true : (x y : A) → alike x y ≡ true → x ≡ y) (alike_self : (x : A) → alike x x ≡ true)
    (xs ys : List A) where
  pub table_none : cond {A = Option ℕ} (all_alike alike xs ys) none (some 0) ≡ none → xs ≡ ys
  table_none e = all_alike_true alike alike_true xs ys (go (all_alike alike xs ys) e)
    where
      go : (t : Bool) → cond {A = Option ℕ} t none (some 0) ≡ none → t ≡ true
      go true q = refl
      go false q = absurd (some-ne-none _ q)

  pub none_table : xs ≡ ys → all_alike alike xs ys ≡ true
  none_table e = subst (λ (zs : List A). all_alike alike xs zs ≡ true) e (all_alike_self alike alike_self xs)

  pub table_some : (place : ℕ) → cond {A = Option ℕ} (all_alike alike xs ys) none (some 0) ≡ some place → (xs ≡ ys → ⊥) × (0 ≡ place)
  table_some place e = go (all_alike alike xs ys) refl e
    where
      go : (t : Bool) → all_alike alike xs ys ≡ t → cond {A = Option ℕ} t none (some 0) ≡ some place → (xs ≡ ys → ⊥) × (0 ≡ place)
      go true q z = absurd (none-ne-some _ z)
      go false q z = (λ s. false≢true (sym q ∙ none_table s), some-injective _ _ z)

  pub some_table : (xs ≡ ys → ⊥) → all_alike alike xs ys ≡ false
  some_table f = go (all_alike alike xs ys) refl
    where
      go : (t : Bool) → all_alike alike xs ys ≡ t → t ≡ false
      go true e = absurd (f (all_alike_true alike alike_true xs ys e))
      go false e = refl

-- 24
pub over_none : (most count : ℕ) → over_bound most count ≡ none → count ≤ most
over_none most count e = go (ltb most count) refl e
  where
    go : (t : Bool) → ltb most count ≡ t → cond t (some count) none ≡ none → count ≤ most
    go true q z = absurd (some-ne-none _ z)
    go false q z = ltb-false most count q

pub over_some : (most count place : ℕ) → over_bound most count ≡ some place → (most < count) × (count ≡ place)
over_some most count place e = go (ltb most count) refl e
  where
    go : (t : Bool) → ltb most count ≡ t → cond t (some count) none ≡ some place → (most < count) × (count ≡ place)
    go true q z = (ltb-true most count q, some-injective _ _ z)
    go false q z = absurd (none-ne-some _ z)

module _ (𝓐 : Algebra) where
  open 𝓐 use {Route, Demand, same_true, same_self}

  pub finds_twice : (N M : NetworkOver 𝓐) → Rises box_id 0 N.boxes
      → Finds (OwnedTwice 𝓐 N M) (lowest (λ (b : Own Route Demand). owns M b.id) (own_boxes N))
  finds_twice N M rise = record {
    found = λ i e.
        let f = lowest_some (λ (b : Own Route Demand). owns M b.id) i 0 (own_boxes N) (own_rise N rise) e in (
          (ap is_own_box (named_box N rise i 0 f), subst (λ (j : ℕ). owns M j ≡ true) f.id_is f.hit),
          λ j l t. false≢true (sym (own_fact N (λ (k : ℕ). k < i → owns M k ≡ false) j f.below t.0 l) ∙ t.1),
        );
    missed = λ e j h. false≢true (sym (none_once N M e j h.0) ∙ h.1);
  }

  -- 22: an assumption has its equal
  promised_fact : (p : Option Route) (r : Route) → promises 𝓐 p r ≡ true → p ≡ some r
  promised_fact none r e = absurd (false≢true e)
  promised_fact (some q) r e = ap some (same_true q r e)

  matched_fact : (r : Route) (o : Option (Box Route Demand)) → matched 𝓐 r o ≡ true → Matches 𝓐 r o
  matched_fact r none e = tt
  matched_fact r (some (own b)) e = promised_fact b.promise r e
  matched_fact r (some (input a)) e = same_true a.assumed r e

  fact_promised : (p : Option Route) (r : Route) → p ≡ some r → promises 𝓐 p r ≡ true
  fact_promised p r e = rw e (same_self r)

  fact_matched : (r : Route) (o : Option (Box Route Demand)) → Matches 𝓐 r o → matched 𝓐 r o ≡ true
  fact_matched r none h = refl
  fact_matched r (some (own b)) h = fact_promised b.promise r h
  fact_matched r (some (input a)) h = rw h (same_self r)

  -- all that N assumes has its equal in M
  abbrev pub AllMatched : NetworkOver 𝓐 → NetworkOver 𝓐 → Type 0
  AllMatched N M = All (λ (a : Input Route). matched 𝓐 a.assumed (box M a.id) ≡ true) (inputs N)

  module _ (N M : NetworkOver 𝓐) where
    abbrev alone : Input Route → Bool
    alone a = not (matched 𝓐 a.assumed (box M a.id))

    pub matched_all : unmatched 𝓐 N M ≡ none → AllMatched N M
    matched_all e = all_map (inputs N) (λ a t. not-false (matched 𝓐 a.assumed (box M a.id)) t)
        (any_false alone (inputs N) (first_that_none alone (inputs N) ((map-eq-none_iff (λ (a : Input Route). a.id) (first_that alone (inputs N))).0 e)))

    -- at the id of an assumption
    matches_when : (i : ℕ) (a : Input Route) → box N i ≡ some (input a) → matched 𝓐 a.assumed (box M a.id) ≡ true → Matches 𝓐 a.assumed (box M i)
    matches_when i a e t = matched_fact a.assumed (box M i)
        (ap (λ (j : ℕ). matched 𝓐 a.assumed (box M j)) (sym (find_key box_id i N.boxes (input a) e)) ∙ t)

    pub matches_at : AllMatched N M → (i : ℕ) (a : Input Route) → box N i ≡ some (input a) → Matches 𝓐 a.assumed (box M i)
    matches_at h i a e = matches_when i a e (input_found N (λ (c : Input Route). matched 𝓐 c.assumed (box M c.id) ≡ true) i a h e)

    finds_unmatched : Rises box_id 0 N.boxes → Finds (Unmatched 𝓐 N M) (unmatched 𝓐 N M)
    finds_unmatched rise = record {
      found = λ i e.
          let f = (map-eq-some_iff (λ (a : Input Route). a.id) (first_that alone (inputs N))).0 e in
          let g = first_that_meets (λ (a : Input Route). box N a.id ≡ some (input a)) alone (inputs N) f.0 (input_there N rise) f.1 in
          let low = first_that_lowest (λ (a : Input Route). a.id) alone 0 (inputs N) f.0 (input_rise N rise) f.1 in (
            (f.0, subst (λ (j : ℕ). box N j ≡ some (input f.0)) f.2 g.0, hit i f.0 f.2 g.1),
            λ j l u. below i f.0 f.2 low j l u.0 u.1 u.2,
          );
      missed = λ e j u. u.2 (matches_at (matched_all e) j u.0 u.1);
    }
      where
        hit : (i : ℕ) (a : Input Route) → a.id ≡ i → alone a ≡ true → Matches 𝓐 a.assumed (box M i) → ⊥
        hit i a q t m = false≢true (sym (not-true (matched 𝓐 a.assumed (box M a.id)) t)
            ∙ ap (λ (j : ℕ). matched 𝓐 a.assumed (box M j)) q ∙ fact_matched a.assumed (box M i) m)

        below : (i : ℕ) (a : Input Route) → a.id ≡ i → All (λ (c : Input Route). c.id < a.id → alone c ≡ false) (inputs N)
            → (j : ℕ) → j < i → (c : Input Route) → box N j ≡ some (input c) → (Matches 𝓐 c.assumed (box M j) → ⊥) → ⊥
        below i a q h j l c p unequal =
            let k : c.id ≡ j = find_key box_id j N.boxes (input c) p in
            unequal (matches_when j c p (not-false (matched 𝓐 c.assumed (box M c.id))
            (input_found N (λ (d : Input Route). d.id < a.id → alone d ≡ false) j c h p (omega arith))))

  pub finds_either : (N M : NetworkOver 𝓐) → Rises box_id 0 N.boxes → Rises box_id 0 M.boxes
      → Finds (EitherUnmatched 𝓐 N M) (lower_of (unmatched 𝓐 N M) (unmatched 𝓐 M N))
  finds_either N M rise rise' = finds_lower (Unmatched 𝓐 N M) (Unmatched 𝓐 M N) (unmatched 𝓐 N M) (unmatched 𝓐 M N)
      (finds_unmatched N M rise) (finds_unmatched M N rise')

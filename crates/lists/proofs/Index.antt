-- A table from ids to places: at an id one more than the first place at which it stands, or 0 where it stands nowhere.
--     mark               what the table holds at an id
--     Indexing, ..       what a loop knows that fills a table of zeros from the last place to the first
--     table_next         a table that is filled from the first place on
use Prim.Native.Nat.{ℕ, ◌+◌, ◌-◌, ◌≤◌, ◌<◌}
use native.Mathlib.Nat.{eq-or-lt_of_le}
use native.Mathlib.Omega.{arith}
use mathlib.Core.Bool.{Bool, true, false, cond, not}
use mathlib.Core.Logic.{⊎_elim}
use mathlib.Core.List.{List}
use mathlib.Core.Path.{◌≡◌, refl, sym, subst, ◌∙◌}
use lib.Dec.{eqb, ltb}
use lib.ListN.{length, get_or, set}
use lib.Seq.{get_or-set_same, get_or-set_other}
use borrow.Author.Tests.{eq-eqb, ne_eqb, lt-ltb, le-ltb, eqb-true, eqb-false}
use Rattle.lists.specs.First.{first_bad}
use Rattle.lists.proofs.First.{first_here, first_none}
use Rattle.lists.specs.Rising.{place}

unfoldable pub mark : (ℕ → ℕ) → ℕ → ℕ → ℕ
mark ids n x = cond (ltb (place ids x n) n) (place ids x n + 1) 0

-- v is the mark of x where the places below i are left out
pub data IndexedAs (ids : ℕ → ℕ) (n i x : ℕ) : ℕ → Type 0 where
  absent : ((k : ℕ) → i ≤ k → k < n → ids k ≡ x → ⊥) → IndexedAs ids n i x 0
  present : (k : ℕ) → i ≤ k → k < n → ids k ≡ x → ((j : ℕ) → i ≤ j → j < k → ids j ≡ x → ⊥) → IndexedAs ids n i x (k + 1)

marked_other : (ids : ℕ → ℕ) (n i x v : ℕ) → (ids i ≡ x → ⊥) → IndexedAs ids n (i + 1) x v → IndexedAs ids n i x v
marked_other ids n i x _ d (absent h) = absent (λ k p q. ⊎_elim (λ (s : i ≡ k). rw (← s) d) (λ (s : i < k). h k (omega arith) q) (eq-or-lt_of_le p))
marked_other ids n i x _ d (present k p q e h) =
    present k (omega arith) q e (λ j r s. ⊎_elim (λ (t : i ≡ j). rw (← t) d) (λ (t : i < j). h j (omega arith) s) (eq-or-lt_of_le r))

marked_here : (ids : ℕ → ℕ) (n i x : ℕ) → i < n → ids i ≡ x → IndexedAs ids n i x (i + 1)
marked_here ids n i x l e = present i (omega arith) l e (λ j r s _. absurd (let z : i < i = omega arith in omega arith))

marked_all : (ids : ℕ → ℕ) (n x v : ℕ) → IndexedAs ids n 0 x v → v ≡ mark ids n x
unfolding mark place
marked_all ids n x _ (absent h) =
    let e : first_bad (λ k. not (eqb (ids k) x)) n ≡ n = first_none _ n (λ k l. simp (ne_eqb (ids k) x (h k (omega arith) l))) in
    rw (e, le-ltb n n (omega arith))
marked_all ids n x _ (present k p q e h) =
    let e : first_bad (λ k. not (eqb (ids k) x)) n ≡ k = first_here _ n k q (λ j l. simp (ne_eqb (ids j) x (h j (omega arith) l))) (simp (eq-eqb (ids k) x e)) in
    rw (e, lt-ltb k n q)

-- the places from i on are entered, for the ids below top
unfoldable pub Indexing : (ℕ → ℕ) → ℕ → ℕ → ℕ → List ℕ → Type 0
Indexing ids n top i t = (x : ℕ) → x < top → IndexedAs ids n i x (get_or t x 0)

module _ (ids : ℕ → ℕ) (n top : ℕ) (t : List ℕ) where
  pub indexing_start : ((x : ℕ) → x < top → get_or t x 0 ≡ 0) → Indexing ids n top n t
  unfolding Indexing
  indexing_start z x l = rw (z x l) (absent (λ k p q _. absurd (let w : n < n = omega arith in omega arith)))

  pub indexing_next : (i id : ℕ) → Indexing ids n top i t → 0 < i → i ≤ n → length t ≡ top → id < top → id ≡ ids (i - 1) → Indexing ids n top (i - 1) (set t id i)
  unfolding Indexing
  indexing_next i id h p q e m d x l = go (eqb id x) refl
    where
      back : i - 1 + 1 ≡ i
      back = omega arith

      go : (s : Bool) → eqb id x ≡ s → IndexedAs ids n (i - 1) x (get_or (set t id i) x 0)
      go true s =
          let y : id ≡ x = eqb-true id x s in
          rw (← y, get_or-set_same t id i 0 (omega arith)) (subst (λ (v : ℕ). IndexedAs ids n (i - 1) id v) back (marked_here ids n (i - 1) id (omega arith) (sym d)))
      go false s =
          let y : id ≡ x → ⊥ = eqb-false id x s in
          rw (get_or-set_other t id x i 0 (λ z. y (sym z)))
          (marked_other ids n (i - 1) x (get_or t x 0) (λ z. y (d ∙ z)) (subst (λ (k : ℕ). IndexedAs ids n k x (get_or t x 0)) (sym back) (h x l)))

  pub indexing_end : Indexing ids n top 0 t → (x : ℕ) → x < top → get_or t x 0 ≡ mark ids n x
  unfolding Indexing
  indexing_end h x l = marked_all ids n x (get_or t x 0) (h x l)

-- a table whose entries below i are as they should be, with the i-th stored
pub table_next : (P : ℕ → ℕ → Type 0) (t : List ℕ) (i v : ℕ) → i < length t → ((k : ℕ) → k < i → P k (get_or t k 0)) → P i v
    → (k : ℕ) → k < i + 1 → P k (get_or (set t i v) k 0)
table_next P t i v l h p k m = go (eqb k i) refl
  where
    go : (s : Bool) → eqb k i ≡ s → P k (get_or (set t i v) k 0)
    go true s = let e : k ≡ i = eqb-true k i s in rw (e, get_or-set_same t i v 0 l) p
    go false s =
        let d : k ≡ i → ⊥ = eqb-false k i s in
        rw (get_or-set_other t i k v 0 d) (h k (omega arith))

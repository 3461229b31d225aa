-- A merge of two lists that rise by a key, as a loop lays it down: the element at the lower of two fronts, then the union of what is left.
--     union_first, union_second, union_both     the union by its first element; union_ahead, union_behind by a run
--     run, run_ahead, run_behind                the first of the rows that are left, as a run of the union
--     Table, rest, front                        rows of a record, those that are left from one on, and the key of the first of these
--     lower, left, Turn, turn                   one turn of the loop
--     Merging, merge_..                         what the loop knows between two turns
use mathlib.Core.Path.{◌≡◌, refl, sym, ap, ap₂, ◌∙◌, subst}
use mathlib.Core.Bool.{Bool, true, false, cond}
use mathlib.Core.List.{List, [], ◌∷◌, ◌++◌}
use Prim.Native.Nat.{ℕ, zero, suc, ◌+◌, ◌-◌, ◌^◌, ◌≤◌, ◌<◌}
use native.Mathlib.Omega.{arith}
use lib.Dec.{leb, ltb}
use lib.ListN.{length, take, drop, length-append}
use mir.Syntax.{w64}
use mir.Val.{Fits}
use borrow.Author.Tests.{lt-ltb, le-ltb, le-leb, lt-leb, ltb-true, ltb-false, leb-true, leb-false}
use Rattle.lists.specs.All.{All}
use Rattle.lists.specs.Laid.{over}
use Rattle.lists.specs.Rows.{rows, laid_rows}
use Rattle.lists.specs.Stride.{at}
use Rattle.lists.specs.Union.{union}
use Rattle.lists.proofs.Laid.{Laid, lend_fits, laid_lend, laid_within, laid_done, over_none}
use Rattle.lists.proofs.Rows.{rows_next, rows_end}
use Rattle.lists.proofs.Stride.{at_next}

-- rows of one width behind a base, by what stands at an offset, with a key that is below `top`
pub record Table (A : Type 0) : Type 0 where
  pub value : ℕ → A
  pub base : ℕ
  pub count : ℕ

-- two tables with one width, one key and one bound of keys, and what stands for two rows with one key
pub record Tables (A : Type 0) : Type 0 where
  pub key : A → ℕ
  pub meet : A → A → A
  pub top : ℕ
  pub width : ℕ
  pub one : Table A
  pub other : Table A

module _ {A : Type 0} (T : Tables A) where
  open T use {key, meet, top, width, one, other}

  -- the row in place p
  abbrev pub row : Table A → ℕ → A
  row t p = t.value (at t.base width p)

  -- every key is below the bound
  abbrev pub Low : Table A → Type 0
  Low t = (p : ℕ) → p < t.count → key (row t p) < top

  -- the rows that are left from p on, and the key at their front
  abbrev pub rest : Table A → ℕ → List A
  rest t p = rows t.value width (at t.base width p) (t.count - p)

  abbrev pub front : Table A → ℕ → ℕ
  front t p = cond (ltb p t.count) (key (row t p)) top

  -- the row at the lower of two fronts, and all that is left
  abbrev pub lower : ℕ → ℕ → A
  lower p q = cond (ltb (front one p) (front other q)) (row one p) (cond (ltb (front other q) (front one p)) (row other q) (meet (row one p) (row other q)))

  abbrev pub left : ℕ → ℕ → List A
  left p q = union key meet (rest one p) (rest other q)

  -- the key at the front of a list
  abbrev head : List A → ℕ
  head [] = top
  head (x ∷ xs) = key x

  union_first : (x : A) (xs ys : List A) → key x < head ys → union key meet (x ∷ xs) ys ≡ x ∷ union key meet xs ys
  union_first x xs [] l = refl
  union_first x xs (y ∷ ys) l = rw (lt-ltb (key x) (key y) l) refl

  union_second : (xs : List A) (y : A) (ys : List A) → key y < head xs → union key meet xs (y ∷ ys) ≡ y ∷ union key meet xs ys
  union_second [] y ys l = refl
  union_second (x ∷ xs) y ys l = rw (le-ltb (key x) (key y) (omega arith), lt-ltb (key y) (key x) l) refl

  union_both : (x : A) (xs : List A) (y : A) (ys : List A) → key x ≡ key y → union key meet (x ∷ xs) (y ∷ ys) ≡ meet x y ∷ union key meet xs ys
  union_both x xs y ys e = rw (le-ltb (key x) (key y) (omega arith), le-ltb (key y) (key x) (omega arith)) refl

  -- a run below all of the other list
  union_ahead : (xs zs ys : List A) → All (λ (x : A). key x < head ys) xs → union key meet (xs ++ zs) ys ≡ xs ++ union key meet zs ys
  union_ahead [] zs ys h = refl
  union_ahead (x ∷ xs) zs ys h = union_first x (xs ++ zs) ys h.0 ∙ ap (◌∷◌ x) (union_ahead xs zs ys h.1)

  union_behind : (xs ys zs : List A) → All (λ (y : A). key y < head xs) ys → union key meet xs (ys ++ zs) ≡ ys ++ union key meet xs zs
  union_behind xs [] zs h = refl
  union_behind xs (y ∷ ys) zs h = union_second xs y (ys ++ zs) h.0 ∙ ap (◌∷◌ y) (union_behind xs ys zs h.1)

  -- the first k of the rows that are left, and the others
  abbrev pub run : Table A → ℕ → ℕ → List A
  run t p k = rows t.value width (at t.base width p) k

  rest_run : (t : Table A) (p k : ℕ) → p + k ≤ t.count → rest t p ≡ run t p k ++ rest t (p + k)
  rest_run t p zero l = let e : p + 0 ≡ p = omega arith in rw e refl
  rest_run t p (suc k) l =
      let e : p + 1 + k ≡ p + suc k = omega arith in
      rows_next t.value width t.base t.count p (omega arith)
      ∙ ap (◌∷◌ (row t p)) (rest_run t (p + 1) k (omega arith) ∙ rw (e, at_next t.base width p) refl)

  -- a fact at the rows of a run
  all_run : (P : A → Type 0) (t : Table A) (p k : ℕ) → ((i : ℕ) → i < k → P (row t (p + i))) → All P (run t p k)
  all_run P t p zero h = tt
  all_run P t p (suc k) h =
      let e : p + 0 ≡ p = omega arith in (
        rw e at (h 0 (omega arith)),
        subst (λ (o : ℕ). All P (rows t.value width o k)) (at_next t.base width p)
            (all_run P t (p + 1) k (λ i l. let d : p + suc i ≡ p + 1 + i = omega arith in rw d at (h (suc i) (omega arith)))),
      )

  -- a front, where rows are left and where none is
  module _ (t : Table A) (p : ℕ) where
    pub front_in : p < t.count → front t p ≡ key (row t p)
    front_in l = rw (lt-ltb p t.count l) refl

    pub front_end : t.count ≤ p → front t p ≡ top
    front_end l = rw (le-ltb p t.count l) refl

    front_head : head (rest t p) ≡ front t p
    front_head = go (ltb p t.count) refl
      where
        go : (s : Bool) → ltb p t.count ≡ s → head (rest t p) ≡ front t p
        go true e = ap head (rows_next t.value width t.base t.count p (ltb-true p t.count e)) ∙ sym (front_in (ltb-true p t.count e))
        go false e = ap head (rows_end t.value width t.base t.count p (ltb-false p t.count e)) ∙ sym (front_end (ltb-false p t.count e))

    -- a front below the bound is a row's, and no front is above it
    pub front_row : front t p < top → p < t.count
    front_row l = go (ltb p t.count) refl
      where
        go : (s : Bool) → ltb p t.count ≡ s → p < t.count
        go true e = ltb-true p t.count e
        go false e = absurd (omega (arith, front_end (ltb-false p t.count e)))

    module _ (low : Low t) where
      pub row_front : p < t.count → front t p < top
      row_front l = rw (front_in l) (low p l)

      front_top : front t p ≤ top
      front_top = go (ltb p t.count) refl
        where
          go : (s : Bool) → ltb p t.count ≡ s → front t p ≤ top
          go true e = omega (arith, row_front (ltb-true p t.count e))
          go false e = omega (arith, front_end (ltb-false p t.count e))

  -- a run of either table that is below the other's front
  pub run_ahead : (p q k : ℕ) → p + k ≤ one.count → ((i : ℕ) → i < k → key (row one (p + i)) < front other q) → left p q ≡ run one p k ++ left (p + k) q
  run_ahead p q k l h =
      ap (λ (xs : List A). union key meet xs (rest other q)) (rest_run one p k l)
      ∙ union_ahead (run one p k) (rest one (p + k)) (rest other q)
      (all_run (λ (x : A). key x < head (rest other q)) one p k (λ i m. rw (front_head other q) (h i m)))

  pub run_behind : (p q k : ℕ) → q + k ≤ other.count → ((i : ℕ) → i < k → key (row other (q + i)) < front one p) → left p q ≡ run other q k ++ left p (q + k)
  run_behind p q k l h =
      ap (union key meet (rest one p)) (rest_run other q k l)
      ∙ union_behind (rest one p) (run other q k) (rest other (q + k))
      (all_run (λ (x : A). key x < head (rest one p)) other q k (λ i m. rw (front_head one p) (h i m)))

  -- one turn: the row at the lower front, and one row less wherever it stood
  pub record Turn (p q s t : ℕ) : Type 0 where
    pub is : left p q ≡ lower p q ∷ left (p + s) (q + t)
    pub one_within : p + s ≤ one.count
    pub other_within : q + t ≤ other.count

  module _ (bytes : A → List ℕ) where
    abbrev pub whole : List ℕ
    whole = laid_rows bytes (left 0 0)

    -- k rows are laid over the start of a buffer and o is behind them, with p and q rows of the two tables behind
    pub record Merging (total : ℕ) (out₀ out : List ℕ) (p q k o : ℕ) : Type 0 where
      pub one_within : p ≤ one.count
      pub other_within : q ≤ other.count
      pub laid : Laid out₀ out o (laid_rows bytes (left p q)) whole
      pub counted : k + length (left p q) ≡ total

-- how many rows go by in a turn
abbrev pub going_by : ℕ → ℕ → ℕ
going_by i j = cond (leb i j) 1 0

module _ {A : Type 0} (T : Tables A) (low_one : Low T T.one) (low_other : Low T T.other) where
  open T use {key, meet, top, width, one, other}

  module _ (p q : ℕ) where
    abbrev i : ℕ
    i = front T one p

    abbrev j : ℕ
    j = front T other q

    -- where the fronts differ the lower one is a row, and where they do not both are
    pub below_one : i < j → p < one.count
    below_one l = front_row T one p (omega (arith, front_top T other q low_other))

    pub below_other : j < i → q < other.count
    below_other l = front_row T other q (omega (arith, front_top T one p low_one))

    module _ (x : p ≤ one.count) (y : q ≤ other.count) (some : p + q < one.count + other.count) where
      level_one : i ≡ j → p < one.count
      level_one e = go (ltb q other.count) refl
        where
          go : (s : Bool) → ltb q other.count ≡ s → p < one.count
          go true d = front_row T one p (omega (arith, row_front T other q low_other (ltb-true q other.count d)))
          go false d = omega (arith, ltb-false q other.count d)

      pub level : i ≡ j → (p < one.count) × (q < other.count)
      level e = let l = level_one e in (l, front_row T other q (omega (arith, row_front T one p low_one l)))

      pub turn : Turn T p q (going_by i j) (going_by j i)
      turn = go (ltb i j) refl (ltb j i) refl
        where
          next_one : p < one.count → rest T one p ≡ row T one p ∷ rest T one (p + 1)
          next_one l = rows_next one.value width one.base one.count p l

          next_other : q < other.count → rest T other q ≡ row T other q ∷ rest T other (q + 1)
          next_other l = rows_next other.value width other.base other.count q l

          p_still : p + 0 ≡ p
          p_still = omega arith

          q_still : q + 0 ≡ q
          q_still = omega arith

          go : (s : Bool) → ltb i j ≡ s → (t : Bool) → ltb j i ≡ t → Turn T p q (going_by i j) (going_by j i)
          go true e t d =
              let l = ltb-true i j e in
              let h = below_one l in
              let u : key (row T one p) < head T (rest T other q) = omega (arith, front_in T one p h, front_head T other q) in
              rw (le-leb i j (omega arith), lt-leb j i l) (record {
                is = ap (λ (xs : List A). union key meet xs (rest T other q)) (next_one h) ∙ union_first T (row T one p) (rest T one (p + 1)) (rest T other q) u ∙ rw (e, q_still) refl;
                one_within = omega arith;
                other_within = omega arith;
              })
          go false e true d =
              let l = ltb-true j i d in
              let h = below_other l in
              let u : key (row T other q) < head T (rest T one p) = omega (arith, front_in T other q h, front_head T one p) in
              rw (lt-leb i j l, le-leb j i (omega arith)) (record {
                is = ap (union key meet (rest T one p)) (next_other h) ∙ union_second T (rest T one p) (row T other q) (rest T other (q + 1)) u ∙ rw (e, d, p_still) refl;
                one_within = omega arith;
                other_within = omega arith;
              })
          go false e false d =
              let k : i ≡ j = omega (arith, ltb-false i j e, ltb-false j i d) in
              let h = level k in
              let h₀ = h.0 in
              let h₁ = h.1 in
              let u : key (row T one p) ≡ key (row T other q) = sym (front_in T one p h₀) ∙ k ∙ front_in T other q h₁ in
              rw (le-leb i j (omega arith), le-leb j i (omega arith)) (record {
                is = ap₂ (union key meet) (next_one h₀) (next_other h₁) ∙ union_both T (row T one p) (rest T one (p + 1)) (row T other q) (rest T other (q + 1)) u ∙ rw (e, d) refl;
                one_within = omega arith;
                other_within = omega arith;
              })

module _ {A : Type 0} (T : Tables A) (bytes : A → List ℕ) where
  open T use {one, other}

  pub merge_start : (total : ℕ) (out₀ : List ℕ) → total ≡ length (left T 0 0) → Merging T bytes total out₀ out₀ 0 0 0 0
  merge_start total out₀ e = record {
    one_within = omega arith;
    other_within = omega arith;
    laid = record { written = []; is = sym (over_none out₀); there = refl; left = refl; long = refl; count = omega arith };
    counted = omega arith;
  }

  module _ (total : ℕ) (out₀ out : List ℕ) (p q k o : ℕ) (c : Merging T bytes total out₀ out p q k o) (room : length (whole T bytes) ≤ length out₀) where
    module _ (l : total ≤ k) where
      none_left : left T p q ≡ []
      none_left = go (left T p q) c.counted
        where
          go : (xs : List A) → k + length xs ≡ total → xs ≡ []
          go [] e = refl
          go (x ∷ xs) e = absurd (omega arith)

      done : (o ≡ length (whole T bytes)) × (out ≡ over (whole T bytes) out₀)
      done = laid_done out₀ out o _ (whole T bytes) c.laid (ap (laid_rows bytes) none_left)

      pub merge_size : o ≡ length (whole T bytes)
      merge_size = done.0

      pub merge_done : out ≡ over (whole T bytes) out₀
      merge_done = done.1

    module _ (l : k < total) where
      pub some_left : p + q < one.count + other.count
      some_left = go (leb (one.count + other.count) (p + q)) refl
        where
          none : one.count + other.count ≤ p + q → left T p q ≡ []
          none h =
              let x = c.one_within in
              let y = c.other_within in
              rw (rows_end one.value T.width one.base one.count p (omega arith), rows_end other.value T.width other.base other.count q (omega arith)) refl

          go : (s : Bool) → leb (one.count + other.count) (p + q) ≡ s → p + q < one.count + other.count
          go true e = absurd (omega (arith, c.counted, ap length (none (leb-true (one.count + other.count) (p + q) e))))
          go false e = leb-false (one.count + other.count) (p + q) e

      pub merge_at : o ≤ length out
      merge_at = laid_within out₀ out _ (whole T bytes) o room c.laid

      module _ (low_one : Low T one) (low_other : Low T other) where
        abbrev s : ℕ
        s = going_by (front T one p) (front T other q)

        abbrev t : ℕ
        t = going_by (front T other q) (front T one p)

        next : Turn T p q s t
        next = turn T low_one low_other p q c.one_within c.other_within some_left

        ready : Laid out₀ out o (bytes (lower T p q) ++ laid_rows bytes (left T (p + s) (q + t))) (whole T bytes)
        ready = subst (λ (xs : List ℕ). Laid out₀ out o xs (whole T bytes)) (ap (laid_rows bytes) next.is) c.laid

        pub merge_fits : length (bytes (lower T p q)) ≤ length (take (length out - o) (drop o out))
        merge_fits = lend_fits out₀ out o (bytes (lower T p q)) _ (whole T bytes) room ready

        module _ (r : ℕ) (e : r ≡ length (bytes (lower T p q))) where
          pub merge_sum : length out₀ < 2 ^ 64 → Fits w64 (o + r)
          merge_sum g = omega (arith, ready.count, length-append (bytes (lower T p q)) (laid_rows bytes (left T (p + s) (q + t))))

          pub merge_next : (back : List ℕ) → back ≡ over (bytes (lower T p q)) (take (length out - o) (drop o out)) → (s' t' : ℕ) → s' ≡ s → t' ≡ t
              → Merging T bytes total out₀ (take o out ++ (back ++ drop (length out - o) (drop o out))) (p + s') (q + t') (k + 1) (o + r)
          merge_next back h s' t' u v = rw (u, v) (record {
            one_within = next.one_within;
            other_within = next.other_within;
            laid = laid_lend out₀ out o (bytes (lower T p q)) _ (whole T bytes) room ready back r e h;
            counted = omega (arith, c.counted, ap length next.is);
          })

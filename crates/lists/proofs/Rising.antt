-- A table of ids that rise strictly, by place.
--     least_.., place_..    the least id that may stand at a place; where an id stands, by a search from the front
--     Between, mid_..       what a search by halving knows
--     Climbing, Around, around_..     the same of ids that may repeat, for the first that is not below another
use Prim.Native.Nat.{ℕ, zero, suc, ◌+◌, ◌-◌, ◌/◌, ◌<◌, ◌≤◌, zero-le}
use native.Mathlib.Nat.{le_of_suc-le-suc, not-suc-le-zero, eq-or-lt_of_le}
use native.Mathlib.Numerals.{add-one}
use native.Mathlib.Omega.{arith}
use mathlib.Core.Bool.{not}
use mathlib.Core.Logic.{⊎_elim}
use mathlib.Core.Path.{◌≡◌, refl, ap, sym, ◌∙◌}
use lib.Dec.{eqb, ltb}
use borrow.Author.Tests.{eq-eqb, ne_eqb, eqb-true, not-false, lt-ltb, le-ltb}
use Rattle.lists.proofs.First.{first_here, first_none, first_fails, first_ext}
use Rattle.lists.proofs.Test.{le_or_lt}
use Rattle.lists.specs.First.{first_bad}
use Rattle.lists.specs.Rising.{Rising, least, place}

pub least_start : (ids : ℕ → ℕ) → 0 ≡ least ids 0
unfolding least
least_start ids = refl

pub least_next : (ids : ℕ → ℕ) (i : ℕ) → ids i + 1 ≡ least ids (i + 1)
unfolding least
least_next ids i = rw (add-one i) (omega arith)

-- ids that agree everywhere have the same least
pub least_ext : (ids other : ℕ → ℕ) → ((k : ℕ) → ids k ≡ other k) → (i : ℕ) → least ids i ≤ ids i → least other i ≤ other i
unfolding least
least_ext ids other e zero h = omega (arith, e 0)
least_ext ids other e (suc i) h = omega (arith, e i, e (suc i))

-- neighbours that rise are enough
pub rising : (ids : ℕ → ℕ) (n : ℕ) → ((k : ℕ) → k + 1 < n → ids k < ids (k + 1)) → Rising ids n
unfolding Rising
rising ids n h p zero l m = absurd (not-suc-le-zero l)
rising ids n h p (suc q) l m =
    let step : ids q < ids (suc q) = rw add-one at (h q (rw add-one m)) in
    ⊎_elim (λ e. rw e step) (λ k. let i : ids p < ids q = rising ids n h p q k (omega arith) in omega arith) (eq-or-lt_of_le (le_of_suc-le-suc l))

-- ids that are nowhere below the least rise
pub least_rising : (ids : ℕ → ℕ) (n : ℕ) → ((k : ℕ) → k < n → least ids k ≤ ids k) → Rising ids n
unfolding least
least_rising ids n h = rising ids n (λ k l. let z = rw add-one at (h (k + 1) l) in rw add-one (omega arith))

-- where it stands, and that it stands there
pub place_found : (ids : ℕ → ℕ) (x n : ℕ) → place ids x n < n → ids (place ids x n) ≡ x
unfolding place
place_found ids x n l = eqb-true (ids (place ids x n)) x (not-false _ (first_fails (λ k. not (eqb (ids k) x)) n l))

pub place_is : (ids : ℕ → ℕ) (x n i : ℕ) → Rising ids n → i < n → ids i ≡ x → place ids x n ≡ i
unfolding Rising place
place_is ids x n i r l e =
    first_here (λ k. not (eqb (ids k) x)) n i l
    (λ k p. let z = r k i p l in simp (ne_eqb (ids k) x (λ q. omega arith)))
    (simp (eq-eqb (ids i) x e))

-- ids that agree below n have the same places
pub place_ext : (ids other : ℕ → ℕ) (x n : ℕ) → ((k : ℕ) → k < n → ids k ≡ other k) → place ids x n ≡ place other x n
unfolding place
place_ext ids other x n h = first_ext _ _ n (λ k l. ap (λ (i : ℕ). not (eqb i x)) (h k l))

-- what bisection knows: x stands neither below lo nor from hi on
pub record Between (ids : ℕ → ℕ) (n x lo hi : ℕ) : Type 0 where
  pub low : lo ≤ hi
  pub high : hi ≤ n
  pub below : (k : ℕ) → k < lo → ids k < x
  pub above : (k : ℕ) → hi ≤ k → k < n → x < ids k

pub between_start : (ids : ℕ → ℕ) (n x : ℕ) → Between ids n x 0 n
between_start ids n x = record {
  low = zero-le;
  high = omega arith;
  below = λ k l. absurd (not-suc-le-zero l);
  above = λ k l m. absurd (let z : n < n = omega arith in omega arith);
}

module _ {ids : ℕ → ℕ} {n x lo hi : ℕ} (r : Rising ids n) (b : Between ids n x lo hi) where
  pub between_up : {m y : ℕ} → lo ≤ m → m < hi → y ≡ ids m → y < x → Between ids n x (m + 1) hi
  unfolding Rising
  between_up {m} {y} l h e t = record {
    low = omega arith;
    high = b.high;
    below = λ k p. let g = b.high in ⊎_elim (λ (q : k ≡ m). rw q (omega arith)) (λ (q : k < m). let z = r k m q (omega arith) in omega arith) (eq-or-lt_of_le (le_of_suc-le-suc (rw add-one at p)));
    above = b.above;
  }

  pub between_down : {m y : ℕ} → lo ≤ m → m < hi → y ≡ ids m → x < y → Between ids n x lo m
  unfolding Rising
  between_down {m} {y} l h e t = record {
    low = l;
    high = let g = b.high in omega arith;
    below = b.below;
    above = λ k p q. ⊎_elim (λ (s : m ≡ k). rw (← s) (omega arith)) (λ (s : m < k). let z = r m k s q in omega arith) (eq-or-lt_of_le p);
  }

  pub between_hit : {m y : ℕ} → lo ≤ m → m < hi → y ≡ ids m → y ≡ x → m ≡ place ids x n
  unfolding Rising place
  between_hit {m} {y} l h e t =
      let g = b.high in
      sym (first_here (λ k. not (eqb (ids k) x)) n m (omega arith)
      (λ k p. let z = r k m p (omega arith) in simp (ne_eqb (ids k) x (λ q. omega arith)))
      (simp (eq-eqb (ids m) x (omega arith))))

-- the same at the middle, as the code says it, in the form that `search` finds
abbrev pub mid : ℕ → ℕ → ℕ
mid lo hi = lo + (hi - lo) / 2

module _ (ids : ℕ → ℕ) (n x lo hi y : ℕ) (r : Rising ids n) (b : Between ids n x lo hi) (l : lo < hi) (e : y ≡ ids (mid lo hi)) where
  pub mid_up : y < x → Between ids n x (mid lo hi + 1) hi
  mid_up t = between_up r b (omega arith) (omega arith) e t

  pub mid_down : (y ≡ x → ⊥) → x ≤ y → Between ids n x lo (mid lo hi)
  mid_down d t = between_down r b (omega arith) (omega arith) e (omega arith)

  pub mid_hit : y ≡ x → mid lo hi ≡ place ids x n
  mid_hit t = between_hit r b (omega arith) (omega arith) e t

pub between_none : {ids : ℕ → ℕ} {n x lo hi : ℕ} → Between ids n x lo hi → hi ≤ lo → place ids x n ≡ n
unfolding place
between_none {ids} {n} {x} {lo} {hi} b l =
    first_none (λ k. not (eqb (ids k) x)) n
    (λ k p. simp (ne_eqb (ids k) x (λ q. ⊎_elim (λ (s : hi ≤ k). let z = b.above k s p in omega arith) (λ (s : k < hi). let z = b.below k (omega arith) in omega arith) (le_or_lt hi k))))

-- ids that do not fall
abbrev pub Climbing : (ℕ → ℕ) → ℕ → Type 0
Climbing ids n = (p q : ℕ) → p ≤ q → q < n → ids p ≤ ids q

-- the ids below lo are below x, and those from hi on are not
pub record Around (ids : ℕ → ℕ) (n x lo hi : ℕ) : Type 0 where
  pub low : lo ≤ hi
  pub high : hi ≤ n
  pub below : (k : ℕ) → k < lo → ids k < x
  pub above : (k : ℕ) → hi ≤ k → k < n → x ≤ ids k

pub around_start : (ids : ℕ → ℕ) (n x : ℕ) → Around ids n x 0 n
around_start ids n x = record {
  low = zero-le;
  high = omega arith;
  below = λ k l. absurd (not-suc-le-zero l);
  above = λ k l m. absurd (let z : n < n = omega arith in omega arith);
}

module _ (ids : ℕ → ℕ) (n x lo hi : ℕ) (a : Around ids n x lo hi) where
  module _ (y : ℕ) (c : Climbing ids n) (l : lo < hi) (e : y ≡ ids (mid lo hi)) where
    pub around_up : y < x → Around ids n x (mid lo hi + 1) hi
    around_up t = let g = a.high in record {
      low = omega arith;
      high = g;
      below = λ k p. let z = c k (mid lo hi) (omega arith) (omega arith) in omega arith;
      above = a.above;
    }

    pub around_down : x ≤ y → Around ids n x lo (mid lo hi)
    around_down t = let g = a.high in record {
      low = omega arith;
      high = omega arith;
      below = a.below;
      above = λ k p q. let z = c (mid lo hi) k p q in omega arith;
    }

  pub around_end : hi ≤ lo → lo ≡ first_bad (λ k. ltb (ids k) x) n
  around_end l =
      let g = a.high in
      let h = a.low in
      ⊎_elim
      (λ (s : n ≤ lo). (let z : lo ≡ n = omega arith in z) ∙ sym (first_none (λ k. ltb (ids k) x) n (λ k p. lt-ltb (ids k) x (a.below k (omega arith)))))
      (λ (s : lo < n). sym (first_here (λ k. ltb (ids k) x) n lo s (λ k p. lt-ltb (ids k) x (a.below k p)) (le-ltb (ids lo) x (a.above lo (omega arith) s))))
      (le_or_lt n lo)

-- A loop over n parts that carries the offset of the i-th and looks for the first bad one.
--     Seek, seek_..       the loop alone, with no offset
--     Walk, walk_..       the loop that carries the offset
--     Climb, climb_..     the loop where ids are to rise, which carries the least id that may come
-- A part is judged by a test on its offset, whose answer the code holds. The laws over the parts of a record are made of these.
use Prim.Native.Nat.{ℕ, ◌+◌, ◌≤◌, ◌<◌, zero-le}
use native.Mathlib.Omega.{arith}
use mathlib.Core.Path.{◌≡◌, sym, ap, ◌∙◌}
use mathlib.Core.Bool.{Bool, true, false, not, ◌&&◌, and-false}
use lib.Dec.{leb}
use borrow.Author.Tests.{le-leb, lt-leb, not-true, not-false}
use Rattle.lists.specs.First.{first_bad}
use Rattle.lists.proofs.First.{Passed, passed_none, passed_more, passed_stop, passed_end}
use Rattle.lists.specs.Rising.{least}
use Rattle.lists.proofs.Rising.{least_start, least_next}
use Rattle.lists.proofs.Test.{and_i}

pub record Seek (ok : ℕ → Bool) (n i : ℕ) : Type 0 where
  pub within : i ≤ n
  pub passed : Passed ok i

pub seek_start : (ok : ℕ → Bool) (n : ℕ) → Seek ok n 0
seek_start ok n = record { within = zero-le; passed = passed_none ok }

module _ (ok : ℕ → Bool) (n i : ℕ) (s : Seek ok n i) where
  pub seek_end : n ≤ i → n ≡ first_bad ok n
  seek_end l = passed_end ok n i l s.within s.passed

  module _ (l : i < n) (t : Bool) (e : t ≡ ok i) where
    pub seek_bad : not t ≡ true → i ≡ first_bad ok n
    seek_bad y = passed_stop ok n i l s.passed (sym e ∙ not-true t y)

    pub seek_next : not t ≡ false → Seek ok n (i + 1)
    seek_next y = record { within = omega arith; passed = passed_more ok i s.passed (sym e ∙ not-false t y) }

pub ruleset seeking = (seek_start, seek_end, seek_bad, seek_next)

pub record Walk (offset : ℕ → ℕ) (ok : ℕ → Bool) (n i o : ℕ) : Type 0 where
  pub within : i ≤ n
  pub here : o ≡ offset i
  pub passed : Passed ok i

pub walk_start : (offset : ℕ → ℕ) (ok : ℕ → Bool) (n o : ℕ) → o ≡ offset 0 → Walk offset ok n 0 o
walk_start offset ok n o e = record { within = zero-le; here = e; passed = passed_none ok }

module _ (offset : ℕ → ℕ) (ok : ℕ → Bool) (n i o : ℕ) (w : Walk offset ok n i o) where
  pub walk_next : (o' : ℕ) → i < n → ok i ≡ true → o' ≡ offset (i + 1) → Walk offset ok n (i + 1) o'
  walk_next o' l t e = record { within = omega arith; here = e; passed = passed_more ok i w.passed t }

  pub walk_bad : i < n → ok i ≡ false → i ≡ first_bad ok n
  walk_bad l t = passed_stop ok n i l w.passed t

  pub walk_end : n ≤ i → n ≡ first_bad ok n
  walk_end l = passed_end ok n i l w.within w.passed

-- the test on the offset at hand is the test on the part at hand
module _ (offset : ℕ → ℕ) (formed : ℕ → Bool) (i o : ℕ) (e : o ≡ offset i) (t : Bool) (h : t ≡ formed o) where
  pub formed_yes : not t ≡ false → formed (offset i) ≡ true
  formed_yes y = ap formed (sym e) ∙ sym h ∙ not-false t y

  pub formed_no : not t ≡ true → formed (offset i) ≡ false
  formed_no y = ap formed (sym e) ∙ sym h ∙ not-true t y

-- a part is good where the test on its offset says so
module _ (offset : ℕ → ℕ) (ok formed : ℕ → Bool) (split : (k : ℕ) → ok k ≡ formed (offset k))
    (n i o : ℕ) (w : Walk offset ok n i o) (l : i < n) (t : Bool) (h : t ≡ formed o) where
  pub walk_good : (o' : ℕ) → not t ≡ false → o' ≡ offset (i + 1) → Walk offset ok n (i + 1) o'
  walk_good o' y e = walk_next offset ok n i o w o' l (split i ∙ formed_yes offset formed i o w.here t h y) e

  pub walk_ill : not t ≡ true → i ≡ first_bad ok n
  walk_ill y = walk_bad offset ok n i o w l (split i ∙ formed_no offset formed i o w.here t h y)

pub record Climb (ids offset : ℕ → ℕ) (ok : ℕ → Bool) (n i o low : ℕ) : Type 0 where
  pub walk : Walk offset ok n i o
  pub floor : low ≡ least ids i

pub climb_start : (ids offset : ℕ → ℕ) (ok : ℕ → Bool) (n o : ℕ) → o ≡ offset 0 → Climb ids offset ok n 0 o 0
climb_start ids offset ok n o e = record { walk = walk_start offset ok n o e; floor = least_start ids }

pub climb_end : (ids offset : ℕ → ℕ) (ok : ℕ → Bool) (n i o low : ℕ) → Climb ids offset ok n i o low → n ≤ i → n ≡ first_bad ok n
climb_end ids offset ok n i o low c l = walk_end offset ok n i o c.walk l

-- a part is good where its id is high enough and the test on its offset says so
module _ (ids offset : ℕ → ℕ) (ok formed : ℕ → Bool) (split : (k : ℕ) → ok k ≡ leb (least ids k) (ids k) && formed (offset k))
    (n i o low : ℕ) (c : Climb ids offset ok n i o low) (l : i < n) where
  pub climb_low : (id : ℕ) → id ≡ ids i → id < low → i ≡ first_bad ok n
  climb_low id e m =
      let f = c.floor in
      let under : leb (least ids i) (ids i) ≡ false = lt-leb (least ids i) (ids i) (omega arith) in
      walk_bad offset ok n i o c.walk l (split i ∙ rw under)

  module _ (t : Bool) (h : t ≡ formed o) where
    pub climb_ill : not t ≡ true → i ≡ first_bad ok n
    climb_ill y =
        let ill = formed_no offset formed i o c.walk.here t h y in
        walk_bad offset ok n i o c.walk l (split i ∙ simp (ill, and-false))

    pub climb_next : (id o' : ℕ) → id ≡ ids i → low ≤ id → not t ≡ false → o' ≡ offset (i + 1) → Climb ids offset ok n (i + 1) o' (id + 1)
    climb_next id o' e m y d =
        let f = c.floor in
        let good = formed_yes offset formed i o c.walk.here t h y in
        let high : leb (least ids i) (ids i) ≡ true = le-leb (least ids i) (ids i) (omega arith) in
        record {
          walk = walk_next offset ok n i o c.walk o' l (split i ∙ and_i _ _ high good) d;
          floor = omega (arith, least_next ids i);
        }

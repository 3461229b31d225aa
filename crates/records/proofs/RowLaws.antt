-- Rows and the table from ids to rows.
--     ids_rise, row_..               the row of a node by its id, where ids rise
--     mark_..                        what the table tells of an id
--     rows_fine                      the table after a check that found nothing
--     rows_read                      the row of an id by the table, as the code reads it
--     filled_once, rows_after_once   there is one filled table, and one table after a check
use Rattle.std.proofs.Common.{Ok, Result}
use Prim.Native.Nat.{ℕ, ◌+◌, ◌<◌, ◌≤◌, ◌-◌}
use native.Mathlib.Omega.{arith}
use mathlib.Core.Path.{◌≡◌, refl, sym, ◌∙◌}
use mathlib.Core.Bool.{Bool, true, false, cond}
use mathlib.Core.List.{List}
use mir.Syntax.{w16}
use mir.Val.{Fits}
use lib.ListN.{length, get_or}
use lib.Seq.{ext_get_or}
use borrow.Author.Tests.{leb-true, ltb-true, lt-ltb}
use Rattle.lists.specs.Rising.{Rising, least}
use Rattle.lists.proofs.Rising.{least_rising, place_found, place_is}
use Rattle.lists.proofs.Test.{and_l}
use Rattle.layout.specs.Layout.{node_count, Room}
use Rattle.nodes.specs.Node.{node_id, node_ok, row_of}
use Rattle.records.specs.Edge.{boxed}
use Rattle.records.specs.Rows.{row_mark, Filled, FilledOrKept, RowsAfter, past_nodes}
use Rattle.layout.specs.declared.Form.{Form}
use Rattle.layout.specs.declared.Refusal.{Refusal}
use Rattle.layout.specs.Refusals.{check_answer}

module _ (f : Form) (b : List ℕ) where
  -- nodes that are all well formed have rising ids
  pub ids_rise : (n : ℕ) → ((i : ℕ) → i < n → node_ok f b i ≡ true) → Rising (node_id f b) n
  unfolding node_ok
  ids_rise n h = least_rising (node_id f b) n (λ k l. leb-true (least (node_id f b) k) (node_id f b k) (and_l _ _ (h k l)))

  module _ (id : ℕ) where
    module _ (h : boxed f b id ≡ true) where
      pub row_within : row_of f b id < node_count b
      unfolding boxed
      row_within = ltb-true (row_of f b id) (node_count b) h

      pub row_found : node_id f b (row_of f b id) ≡ id
      unfolding boxed row_of
      row_found = place_found (node_id f b) id (node_count b) (ltb-true _ _ h)

    -- a node with the id is in its row
    pub row_is : (i : ℕ) → Rising (node_id f b) (node_count b) → i < node_count b → node_id f b i ≡ id → row_of f b id ≡ i
    unfolding row_of
    row_is i r l e = place_is (node_id f b) id (node_count b) i r l e

    pub row_boxed : (i : ℕ) → Rising (node_id f b) (node_count b) → i < node_count b → node_id f b i ≡ id → boxed f b id ≡ true
    unfolding boxed
    row_boxed i r l e = rw (row_is i r l e) (lt-ltb i (node_count b) l)

    module _ (rows : List ℕ) (v : ℕ) (filled : Filled f b rows) (m : id < 65536) (e : v ≡ get_or rows id 0) where
      mark_is : v ≡ cond (boxed f b id) (row_of f b id + 1) 0
      unfolding Filled row_mark
      mark_is = e ∙ filled id m

      pub mark_none : v ≡ 0 → boxed f b id ≡ false
      mark_none z = go (boxed f b id) mark_is
        where
          go : (t : Bool) → v ≡ cond t (row_of f b id + 1) 0 → t ≡ false
          go true q = absurd (omega arith)
          go false q = refl

      pub mark_boxed : (v ≡ 0 → ⊥) → boxed f b id ≡ true
      mark_boxed z = go (boxed f b id) mark_is
        where
          go : (t : Bool) → v ≡ cond t (row_of f b id + 1) 0 → t ≡ true
          go true q = refl
          go false q = absurd (z q)

      pub mark_row : boxed f b id ≡ true → v ≡ row_of f b id + 1
      mark_row h = mark_is ∙ rw h

pub filled_once : (f : Form) (b r s : List ℕ) → length r ≡ 65536 → length s ≡ 65536 → Filled f b r → Filled f b s → r ≡ s
unfolding Filled
filled_once f b r s p q h k = ext_get_or 0 r s (p ∙ sym q) (λ i l. h i (omega arith) ∙ sym (k i (omega arith)))

-- a check that found nothing left the table filled
pub rows_fine : (f : Form) (b : List ℕ) (g : Form) (c : Result Form Refusal) (before after : List ℕ) → c ≡ Ok g → RowsAfter f b c before after → Filled f b after
rows_fine f b g c before after e h = rw e at h

-- a contract that gives the table after a check allows one
pub rows_after_once : (f : Form) (b : List ℕ) (c : Result Form Refusal) (before r s : List ℕ) → length r ≡ 65536 → length s ≡ 65536
    → RowsAfter f b c before r → RowsAfter f b c before s → r ≡ s
rows_after_once f b c before r s p q = go (past_nodes (check_answer c))
  where
    go : (t : Bool) → FilledOrKept f b t before r → FilledOrKept f b t before s → r ≡ s
    go true h k = filled_once f b r s p q h k
    go false h k = h ∙ sym k

-- the row of a node by its id
module _ (f : Form) (b rows : List ℕ) (id row : ℕ) (filled : Filled f b rows) (h : boxed f b id ≡ true) (m : Fits w16 id) (e : row ≡ get_or rows id 0) where
  marked : row ≡ row_of f b id + 1
  marked = mark_row f b id rows row filled (omega arith) e h

  pub row_some : 1 ≤ row
  row_some = omega (arith, marked)

  pub row_there : row - 1 ≡ row_of f b id
  row_there = omega (arith, marked)

  pub row_below : row - 1 < node_count b
  row_below = let w = row_within f b id h in omega (arith, marked)

  pub row_small : Room f b → row - 1 < 1024
  row_small r = let w = row_below in let k = r.few in let u = r.usable.few in omega arith

pub ruleset rows_read = (row_some, row_there, row_below, row_small)

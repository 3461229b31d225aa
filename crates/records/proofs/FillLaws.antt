-- The loop that fills the table from ids to rows, from the last row to the first.
use Prim.Native.Nat.{ℕ, ◌+◌, ◌-◌, ◌≤◌, ◌<◌}
use native.Mathlib.Omega.{arith}
use mathlib.Core.Path.{◌≡◌, ◌∙◌}
use mathlib.Core.List.{List}
use lib.ListN.{length, set, replicate, length-set, length-replicate, get_or-replicate}
use mir.Syntax.{w16}
use mir.Val.{Fits}
use Rattle.lists.proofs.Index.{mark, Indexing, indexing_start, indexing_next, indexing_end}
use Rattle.numbers.specs.BigEndian.{u16_at}
use Rattle.layout.specs.Layout.{Room, node_count}
use Rattle.nodes.specs.Node.{node_id, row_of}
use Rattle.records.specs.Edge.{boxed}
use Rattle.records.specs.Rows.{row_mark, Filled}
use Rattle.layout.specs.declared.Form.{Form}

-- what the loop that fills the table knows: the rows from the i-th on are entered
pub record Filling (f : Form) (b : List ℕ) (i : ℕ) (rows : List ℕ) : Type 0 where
  pub within : i ≤ node_count b
  pub long : length rows ≡ 65536
  pub entered : Indexing (node_id f b) (node_count b) 65536 i rows

module _ (f : Form) (b rows : List ℕ) (i : ℕ) where
  pub filling_start : (n : ℕ) → i ≡ n → n ≡ u16_at b 5 → rows ≡ replicate 65536 0 → Filling f b i rows
  filling_start n d e z = rw (d, e, z) (record {
    within = omega arith;
    long = length-replicate {A = ℕ} 65536 0;
    entered = indexing_start _ _ _ _ (λ x l. get_or-replicate 65536 x 0 0 l);
  })

  module _ (h : Filling f b i rows) where
    pub filling_row : 0 < i → i - 1 < node_count b
    filling_row l = let m = h.within in omega arith

    pub filling_fits : 0 < i → Room f b → Fits w16 (i - 1 + 1)
    filling_fits p r = let m = h.within in let k = r.few in let u = r.usable.few in omega arith

    pub filling_next : (wide id : ℕ) → 0 < i → wide ≡ id → id < 65536 → id ≡ node_id f b (i - 1) → Filling f b (i - 1) (set rows wide (i - 1 + 1))
    filling_next wide id l w m d = let up : i - 1 + 1 ≡ i = omega arith in rw (w, up) (record {
      within = let p = h.within in omega arith;
      long = length-set rows id i ∙ h.long;
      entered = indexing_next _ _ _ _ i id h.entered l h.within h.long (omega arith) d;
    })

    pub filling_end : i ≤ 0 → Filled f b rows
    unfolding Filled row_mark boxed row_of mark
    filling_end l = let z : i ≡ 0 = omega arith in indexing_end _ _ _ _ (rw z at h.entered)

pub ruleset filling = (filling_start, filling_row, filling_fits, filling_next, filling_end)

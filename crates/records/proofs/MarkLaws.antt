-- The rows that edges with a property leave.
--     marks_long, marks_say     a table of marks, after the edges are passed
use Prim.Native.Nat.{ℕ, zero, suc, ◌≤◌, ◌<◌}
use native.Mathlib.Numerals.{add-one}
use native.Mathlib.Omega.{arith}
use mathlib.Core.Path.{◌≡◌, refl, sym, ap, ◌∙◌}
use mathlib.Core.Bool.{Bool, true, false, cond, not, ◌&&◌, ◌||◌, or-true, or-false}
use mathlib.Core.List.{List}
use lib.Dec.{eqb}
use lib.ListN.{length, get_or, set, replicate, length-set, length-replicate, get_or-replicate}
use lib.Seq.{get_or-set_same, get_or-set_other}
use borrow.Author.Tests.{eqb-true, eqb-false}
use Rattle.lists.specs.First.{first_bad, every}
use Rattle.lists.specs.Gather.{table_after}
use Rattle.lists.specs.Rising.{Rising}
use Rattle.lists.proofs.First.{every_next}
use Rattle.lists.proofs.Gather.{after_long}
use Rattle.layout.specs.Layout.{node_count}
use Rattle.nodes.specs.Node.{node_id, row_of}
use Rattle.records.specs.Edge.{boxed, edge_from}
use Rattle.records.specs.Rows.{marked_by, Marked}
use Rattle.records.proofs.RowLaws.{row_found, row_is}
use Rattle.layout.specs.declared.Form.{Form}

module _ (f : Form) (b : List ℕ) (property : ℕ → Bool) where
  mark_long : (j : ℕ) (marks : List ℕ) → length (marked_by f b property j marks) ≡ length marks
  unfolding marked_by
  mark_long j marks = go (property j)
    where
      go : (t : Bool) → length (cond t (set marks (row_of f b (edge_from f b j)) 1) marks) ≡ length marks
      go true = length-set marks _ 1
      go false = refl

  module _ (few : node_count b ≤ 1024) (rise : Rising (node_id f b) (node_count b)) where
    -- one edge more
    mark_next : (j : ℕ) (marks : List ℕ) → length marks ≡ 1024 → boxed f b (edge_from f b j) ≡ true → Marked f b property j marks
        → Marked f b property (suc j) (marked_by f b property j marks)
    unfolding Marked marked_by
    mark_next j marks long there m i l =
        rw (
          ← add-one j,
          every_next (λ k. not (property k && eqb (edge_from f b k) (node_id f b i))) j,
          spread (every (λ k. not (property k && eqb (edge_from f b k) (node_id f b i))) j) (property j && eqb (edge_from f b j) (node_id f b i)),
        )
        (go (property j) (eqb (edge_from f b j) (node_id f b i)) refl)
      where
        before : Bool
        before = not (every (λ k. not (property k && eqb (edge_from f b k) (node_id f b i))) j)

        spread : (a t : Bool) → not (a && not t) ≡ not a || t
        spread true true = refl
        spread true false = refl
        spread false t = refl

        go : (p t : Bool) → eqb (edge_from f b j) (node_id f b i) ≡ t
            → get_or (cond p (set marks (row_of f b (edge_from f b j)) 1) marks) i 0 ≡ cond (before || (p && t)) 1 0
        go false t q = simp or-false (m i l)
        go true true q =
            let e : row_of f b (edge_from f b j) ≡ i = row_is f b (edge_from f b j) i rise l (sym (eqb-true _ _ q)) in
            simp (e, get_or-set_same marks i 1 0 (omega arith), or-true)
        go true false q =
            let d : row_of f b (edge_from f b j) ≡ i → ⊥ = λ e. eqb-false _ _ q (sym (row_found f b (edge_from f b j) there) ∙ ap (node_id f b) e) in
            simp (get_or-set_other marks (row_of f b (edge_from f b j)) i 1 0 (λ e. d (sym e)), or-false) (m i l)

    -- the edges that are passed on a table of zeros
    pub marks_say : (m : ℕ) → ((j : ℕ) → j < m → boxed f b (edge_from f b j) ≡ true) → Marked f b property m (table_after (marked_by f b property) m (replicate 1024 0))
    unfolding table_after Marked every first_bad
    marks_say zero h = λ i l. get_or-replicate 1024 i 0 0 (omega arith)
    marks_say (suc m) h =
        mark_next m (table_after (marked_by f b property) m (replicate 1024 0))
        (after_long (marked_by f b property) (replicate 1024 0) mark_long m ∙ length-replicate {A = ℕ} 1024 0)
        (h m (omega arith))
        (marks_say m (λ j l. h j (omega arith)))

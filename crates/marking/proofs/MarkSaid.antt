-- The tables of marks and numbers say what the network and the sheet say of boxes and wires.
--     reaches_is            an edge into a fragment
--     leaving, feeding      the marks of all edges
use Prim.Native.Nat.{ℕ, ◌<◌}
use native.Mathlib.Omega.{arith}
use mathlib.Core.Bool.{Bool, true, false, cond, not, ◌&&◌, and-true, and-false, and_comm}
use mathlib.Core.List.{List}
use mathlib.Core.Path.{◌≡◌, refl, sym, ap, ap₂, ◌∙◌}
use lib.Dec.{eqb}
use lib.ListN.{get_or, replicate}
use Rattle.lists.specs.Gather.{table_after}
use borrow.Author.Tests.{eqb-true}
use Rattle.lists.proofs.First.{every_ext}
use Rattle.lists.proofs.Table.{any_rows}
use Rattle.lists.proofs.Test.{and_l, and_r}
use Rattle.networks.specs.Cut.{is_cut, leaves, feeds, only}
use Rattle.networks.specs.Network.{Wire}
use Rattle.networks.specs.Sheets.{number}
use Rattle.records.specs.Edge.{boxed, owned, edge_to, edge_from}
use Rattle.layout.specs.Layout.{node_count, edge_count, edge_part, edge_offset}
use Rattle.nodes.specs.Node.{node_id, is_own, row_of}
use Rattle.records.proofs.RowLaws.{row_within, row_found, row_is, row_boxed}
use Rattle.layout.specs.declared.Form.{Form}
use Rattle.records.specs.Rows.{marked_by, Marked}
use Rattle.records.proofs.MarkLaws.{marks_say}
use Rattle.reading.specs.Parts.{wire_at}
use Rattle.reading.specs.Whole.{HouseNetwork, HouseSheet, read_network, read_sheet}
use Rattle.reading.proofs.Said.{owns_read, Edge, edge_parts}
use Rattle.marking.specs.Marks.{to_fragment, from_fragment, crosses, reaches, Leaving, Feeding}
use Rattle.records.specs.Checked.{CheckedNetwork}
use Rattle.marking.specs.Tables.{row_fragment, Numbered}

module _ (f : Form) (network sheet fragments : List ℕ) (c : CheckedNetwork f network) (m : Numbered f network sheet fragments) where
  abbrev N : HouseNetwork
  N = read_network f network

  abbrev S : HouseSheet
  S = read_sheet f sheet

  -- the number of an own box, by its row
  own_fragment : (x : ℕ) → owned f network x ≡ true → get_or fragments (row_of f network x) 0 ≡ number S x
  unfolding row_fragment owned
  own_fragment x h =
      let there = and_l (boxed f network x) (is_own f network (row_of f network x)) h in
      m.row (row_of f network x) (row_within f network x there) ∙ rw (and_r (boxed f network x) (is_own f network (row_of f network x)) h, row_found f network x there)

  edge : (j : ℕ) → j < edge_count network → Edge f network j
  edge j l = edge_parts f network j (c.sound.edges j l)

  -- an edge with its to end in fragment k, as the network says it
  pub reaches_is : (k j : ℕ) → j < edge_count network → reaches f network fragments k j ≡ only k (number S (edge_to f network j))
  unfolding reaches to_fragment
  reaches_is k j l = ap (λ (n : ℕ). eqb n k) (own_fragment (edge_to f network j) (edge j l).to_own)

  -- a box that stands in an own row is own
  row_owned : (i x : ℕ) → i < node_count network → is_own f network i ≡ true → node_id f network i ≡ x → owned f network x ≡ true
  unfolding owned
  row_owned i x l ours e = rw (row_boxed f network x i c.rising l e, row_is f network x i c.rising l e) ours

  -- an edge that leaves an own row, as the network says it
  crosses_is : (i j : ℕ) → j < edge_count network → i < node_count network → is_own f network i ≡ true → node_id f network i ≡ edge_from f network j
      → crosses f network fragments j ≡ is_cut N S (wire_at network (edge_offset f network j))
  unfolding crosses to_fragment from_fragment wire_at edge_to edge_from
  crosses_is i j l m ours e =
      let from_own = row_owned i (edge_from f network j) m ours e in
      let to_own = (edge j l).to_own in
      ap₂ (λ (t s : ℕ). not (eqb t s)) (own_fragment (edge_to f network j) to_own) (own_fragment (edge_from f network j) from_own)
      ∙ sym (rw (owns_read f network (edge_to f network j) ∙ to_own, owns_read f network (edge_from f network j) ∙ from_own))

  -- the marks of all edges with a property, on a table of zeros
  module _ (marks : List ℕ) where
    whole : (property : ℕ → Bool) → marks ≡ table_after (marked_by f network property) (edge_count network) (replicate 1024 0) → Marked f network property (edge_count network) marks
    whole property h =
        let few = c.room.few in
        let most = c.room.usable.few in
        rw h (marks_say f network property (omega arith) c.rising (edge_count network) (λ j l. (edge j l).from_there))

    pub leaving : marks ≡ table_after (marked_by f network (crosses f network fragments)) (edge_count network) (replicate 1024 0) → Leaving f network sheet marks
    unfolding Leaving Marked leaves read_network wire_at edge_to edge_from edge_offset
    leaving h i l ours =
        whole (crosses f network fragments) h i l ∙ ap (λ (t : Bool). cond t 1 0)
        (ap not (every_ext _ _ (edge_count network) same_edge)
        ∙ sym (any_rows (λ (w : Wire). eqb w.from (node_id f network i) && is_cut N S w) (wire_at network) 5 (edge_part f network) (edge_count network)))
      where
        same_edge : (j : ℕ) → j < edge_count network → not (crosses f network fragments j && eqb (edge_from f network j) (node_id f network i))
            ≡ not (eqb (edge_from f network j) (node_id f network i) && is_cut N S (wire_at network (edge_offset f network j)))
        same_edge j q = ap not (go (eqb (edge_from f network j) (node_id f network i)) refl)
          where
            go : (t : Bool) → eqb (edge_from f network j) (node_id f network i) ≡ t → crosses f network fragments j && t ≡ t && is_cut N S (wire_at network (edge_offset f network j))
            go true e = and-true (crosses f network fragments j) ∙ crosses_is i j q l ours (sym (eqb-true _ _ e))
            go false e = and-false (crosses f network fragments j)

    pub feeding : (k : ℕ) → marks ≡ table_after (marked_by f network (reaches f network fragments k)) (edge_count network) (replicate 1024 0) → Feeding f network sheet k marks
    unfolding Feeding Marked feeds read_network wire_at edge_to edge_from edge_offset
    feeding k h i l =
        whole (reaches f network fragments k) h i l ∙ ap (λ (t : Bool). cond t 1 0)
        (ap not (every_ext _ _ (edge_count network) same_edge)
        ∙ sym (any_rows (λ (w : Wire). eqb w.from (node_id f network i) && only k (number S w.to)) (wire_at network) 5 (edge_part f network) (edge_count network)))
      where
        same_edge : (j : ℕ) → j < edge_count network → not (reaches f network fragments k j && eqb (edge_from f network j) (node_id f network i))
            ≡ not (eqb (edge_from f network j) (node_id f network i) && only k (number S (edge_to f network j)))
        same_edge j q = ap not (and_comm (reaches f network fragments k j) (eqb (edge_from f network j) (node_id f network i))
            ∙ ap (λ (t : Bool). eqb (edge_from f network j) (node_id f network i) && t) (reaches_is k j q))

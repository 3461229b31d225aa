-- The rows that edges leave, as the code marks them.
--     marking               one edge marks the row that it leaves
--     markings              the ways on of the loop over the edges
use Prim.Native.Nat.{ℕ, ◌+◌, ◌^◌, ◌≤◌, ◌<◌}
use native.Mathlib.Omega.{arith}
use mathlib.Core.Bool.{Bool, true, cond, not}
use mathlib.Core.List.{List}
use mathlib.Core.Path.{◌≡◌, sym, ◌∙◌}
use lib.Dec.{eqb}
use lib.ListN.{length, get_or, set}
use mir.Syntax.{w64}
use mir.Val.{Fits, bool_byte}
use Rattle.lists.specs.Gather.{count, table_after}
use Rattle.lists.proofs.Gather.{after_none, after_next, count_none, count_next, count_one, count_most, count_le}
use Rattle.numbers.specs.BigEndian.{u16_at}
use Rattle.records.specs.Edge.{boxed, owned, edge_to, edge_from}
use Rattle.layout.specs.Layout.{edge_count, edge_offset}
use Rattle.nodes.specs.Node.{row_of}
use Rattle.layout.proofs.Places.{edge_after, edge_room}
use Rattle.records.specs.Rows.{marked_by}
use Rattle.layout.specs.declared.Form.{Form}
use Rattle.reading.proofs.Said.{Edge, edge_parts}
use Rattle.lists.proofs.Test.{and_l}
use Rattle.marking.specs.Marks.{to_fragment, from_fragment, crosses, reaches}
use Rattle.records.specs.Checked.{CheckedNetwork}

-- one edge
module _ (f : Form) (network : List ℕ) (c : CheckedNetwork f network) (j at : ℕ) (l : j < edge_count network) (e : at ≡ edge_offset f network j) where
  edge : Edge f network j
  edge = edge_parts f network j (c.sound.edges j l)

  room : at + 5 ≤ length network
  room = omega (arith, edge_room f network c.room j l)

  pub to_room : at + 2 ≤ length network
  to_room = let h = room in omega arith

  pub from_room : at + 2 + 2 ≤ length network
  from_room = let h = room in omega arith

  pub from_at : length network < 2 ^ 64 → Fits w64 (at + 2)
  from_at g = let h = room in omega arith

  to_is : u16_at network at ≡ edge_to f network j
  unfolding edge_to
  to_is = rw e

  from_is : u16_at network (at + 2) ≡ edge_from f network j
  unfolding edge_from
  from_is = rw e

  pub to_there : (id : ℕ) → id ≡ u16_at network at → boxed f network id ≡ true
  unfolding owned
  to_there id d = rw (d, to_is) (and_l _ _ edge.to_own)

  pub from_there : (id : ℕ) → id ≡ u16_at network (at + 2) → boxed f network id ≡ true
  from_there id d = rw (d, from_is) edge.from_there

  -- the numbers of its ends
  module _ (fragments : List ℕ) (k id to : ℕ) (d : id ≡ u16_at network at) (p : to ≡ row_of f network id) where
    pub edge_reaches : eqb (get_or fragments to 0) k ≡ reaches f network fragments k j
    unfolding reaches to_fragment
    edge_reaches = rw (p, d, to_is)

    module _ (sender from : ℕ) (g : sender ≡ u16_at network (at + 2)) (r : from ≡ row_of f network sender) (marks marks' : List ℕ) where
      pub edge_left : marks' ≡ cond (not (eqb (get_or fragments to 0) (get_or fragments from 0))) (set marks from 1) marks → marks' ≡ marked_by f network (crosses f network fragments) j marks
      unfolding marked_by crosses to_fragment from_fragment
      edge_left q = q ∙ rw (p, r, d, g, to_is, from_is)

      pub edge_fed : marks' ≡ cond (eqb (get_or fragments to 0) k) (set marks from 1) marks → marks' ≡ marked_by f network (reaches f network fragments k) j marks
      unfolding marked_by reaches to_fragment
      edge_fed q = q ∙ rw (p, r, d, g, to_is, from_is)

pub ruleset marking = (to_room, from_room, from_at, to_there, from_there, edge_reaches, edge_left, edge_fed)

-- what the loop over the edges knows
pub record Marking (f : Form) (network fragments : List ℕ) (k n j at kept : ℕ) (leaves₀ feeds₀ leaves feeds : List ℕ) : Type 0 where
  pub within : j ≤ n
  pub here : at ≡ edge_offset f network j
  pub counted : kept ≡ count (reaches f network fragments k) j
  pub left : leaves ≡ table_after (marked_by f network (crosses f network fragments)) j leaves₀
  pub fed : feeds ≡ table_after (marked_by f network (reaches f network fragments k)) j feeds₀

module _ (f : Form) (network fragments : List ℕ) (k n : ℕ) (leaves₀ feeds₀ : List ℕ) where
  pub marking_start : (at : ℕ) → at ≡ edge_offset f network 0 → Marking f network fragments k n 0 at 0 leaves₀ feeds₀ leaves₀ feeds₀
  marking_start at e = record { within = omega arith; here = e; counted = count_none _; left = after_none _ leaves₀; fed = after_none _ feeds₀ }

  module _ (j at kept : ℕ) (leaves feeds : List ℕ) (h : Marking f network fragments k n j at kept leaves₀ feeds₀ leaves feeds) where
    module _ (l : n ≤ j) (e : n ≡ edge_count network) where
      done : j ≡ edge_count network
      done = let w = h.within in omega arith

      pub marking_count : kept ≡ count (reaches f network fragments k) (edge_count network)
      marking_count = rw (← done) h.counted

      pub marking_left : leaves ≡ table_after (marked_by f network (crosses f network fragments)) (edge_count network) leaves₀
      marking_left = rw (← done) h.left

      pub marking_fed : feeds ≡ table_after (marked_by f network (reaches f network fragments k)) (edge_count network) feeds₀
      marking_fed = rw (← done) h.fed

    module _ (l : j < n) where
      pub marking_at : n ≡ edge_count network → CheckedNetwork f network → length network < 2 ^ 64 → Fits w64 (at + 5)
      marking_at e c g = let p = h.here in omega (arith, edge_room f network c.room j (omega arith))

      module _ (t : Bool) (one : ℕ) (q : t ≡ reaches f network fragments k j) (o : one ≡ bool_byte t) where
        pub marking_kept : n ≤ 65535 → Fits w64 (kept + one)
        marking_kept g = let s = count_most t in let p = h.counted in omega (arith, count_le (reaches f network fragments k) j)

        pub marking_next : (leaves' feeds' : List ℕ) → leaves' ≡ marked_by f network (crosses f network fragments) j leaves
            → feeds' ≡ marked_by f network (reaches f network fragments k) j feeds → Marking f network fragments k n (j + 1) (at + 5) (kept + one) leaves₀ feeds₀ leaves' feeds'
        marking_next leaves' feeds' a b =
            let p = h.here in
            record {
              within = omega arith;
              here = omega (arith, edge_after f network j);
              counted = rw (h.counted, o, count_one t, q) (sym (count_next (reaches f network fragments k) j));
              left = after_next (marked_by f network (crosses f network fragments)) leaves₀ j leaves leaves' h.left a;
              fed = after_next (marked_by f network (reaches f network fragments k)) feeds₀ j feeds feeds' h.fed b;
            }

pub ruleset markings = (marking_start, marking_count, marking_left, marking_fed, marking_at, marking_kept, marking_next)

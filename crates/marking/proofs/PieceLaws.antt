-- What the fragment keeps of a row.
--     classifying           what is kept of one row, as the marks tell it
--     piece_is              and that it is what the fragment keeps
--     classifications       the loop over the rows
--     by_code               a code of a way says that way
--     pieces_made           what the table of all rows holds
use Prim.Native.Nat.{ℕ, ◌+◌, ◌≤◌, ◌<◌}
use native.Mathlib.Omega.{arith}
use mathlib.Core.Bool.{Bool, true, false, cond, not, ◌&&◌, and-false}
use mathlib.Core.List.{List}
use mathlib.Core.Option.{Option, none, some}
use mathlib.Core.Path.{◌≡◌, refl, sym, ap, ◌∙◌}
use lib.Dec.{eqb}
use lib.ListN.{get_or, set, replicate, length-replicate}
use borrow.Author.Tests.{eqb-true, eqb-false, eq-eqb, ne_eqb, not-true, not-false}
use mir.Syntax.{w64}
use mir.Val.{Fits, bool_byte}
use Rattle.lists.specs.Filter.{holds}
use Rattle.lists.specs.Gather.{count, table_after}
use Rattle.lists.proofs.Gather.{after_none, after_next, after_stored, count_none, count_next, count_one, count_most, count_le}
use Rattle.routes.specs.declared.Demand.{Demand}
use Rattle.routes.specs.declared.Route.{Route}
use Rattle.networks.specs.Cut.{leaves, feeds, only, promised}
use Rattle.networks.specs.Network.{Box, own}
use Rattle.networks.specs.Sheets.{number, note}
use Rattle.layout.specs.Layout.{Room, node_count, node_offset}
use Rattle.nodes.specs.Node.{node_id, is_own, promising}
use Rattle.layout.specs.declared.Form.{Form}
use Rattle.reading.specs.Whole.{HouseNetwork, HouseSheet, read_network, read_sheet}
use Rattle.marking.specs.Marks.{Leaving, Feeding}
use Rattle.marking.specs.declared.pieces.Kept.{Kept}
use Rattle.marking.specs.declared.pieces.Kept.TheVariants.{Nothing, Stays, Promised, Assumed}
use Rattle.marking.specs.Pieces.{note_in, piece_in, keeps, kept_in, with_piece, piece_of, Piece, Pieces, some_kept, code_of, kept_by}
use Rattle.records.specs.Entered.{EntryRows}
use Rattle.marking.specs.Tables.{row_fragment, Numbered}
use Rattle.reading.specs.Rows.{own_in}
use Rattle.marking.proofs.Said.{own_box, input_box}
use Rattle.marking.proofs.RowLaws.{node_there, noted, own_piece, other_piece}
use Rattle.marking.proofs.FragmentLaws.{row_small}
use Rattle.marking.proofs.ClashLaws.{mark_zero, mark_one}
use Rattle.reading.proofs.Said.{promise_none, promise_some}
use Rattle.layout.specs.Form.{sheet_lead}

-- a promise stays where no cut wire leaves
promised_stays : (p note : Option Route) → promised p false note ≡ p
promised_stays none n = refl
promised_stays (some q) n = refl

-- what is kept where a row is marked
marked : (v : ℕ) (t : Bool) → v ≡ cond t 1 0 → (kept : Kept) → cond (eqb v 0) Nothing kept ≡ cond t kept Nothing
marked v true e kept = rw e
marked v false e kept = rw e

module _ (f : Form) (network sheet : List ℕ) (i : ℕ) (l : i < node_count network) (k : ℕ) where
  abbrev N : HouseNetwork
  N = read_network f network

  abbrev S : HouseSheet
  S = read_sheet f sheet

  -- the way by the tables
  module _ (own? : Bool) (e : own? ≡ is_own f network i) where
    pub kept_input : (fed : List ℕ) → not own? ≡ true → Feeding f network sheet k fed → cond (eqb (get_or fed i 0) 0) Nothing Stays ≡ kept_in f network sheet k i
    unfolding kept_in Feeding
    kept_input fed y m = rw (← e, not-true own? y) (marked (get_or fed i 0) (feeds N S (only k) (node_id f network i)) (m i l) Stays)

    module _ (y : not own? ≡ false) (fragments : List ℕ) (m : Numbered f network sheet fragments) where
      module _ (d : get_or fragments i 0 ≡ k → ⊥) (fed : List ℕ) (g : Feeding f network sheet k fed) where
        pub kept_other : cond (eqb (get_or fed i 0) 0) Nothing Assumed ≡ kept_in f network sheet k i
        unfolding kept_in Feeding
        kept_other = rw (← e, not-false own? y, ne_eqb (row_fragment f network sheet i) k (λ q. d (m.row i l ∙ q)))
            (marked (get_or fed i 0) (feeds N S (only k) (node_id f network i)) (g i l) Assumed)

      module _ (q : get_or fragments i 0 ≡ k) (marks : List ℕ) (g : Leaving f network sheet marks) where
        left? : get_or marks i 0 ≡ cond (leaves N S (node_id f network i)) 1 0
        unfolding Leaving
        left? = g i l (sym e ∙ not-false own? y)

        pub kept_stays : get_or marks i 0 ≡ 0 → Stays ≡ kept_in f network sheet k i
        unfolding kept_in
        kept_stays z = rw (← e, not-false own? y, eq-eqb (row_fragment f network sheet i) k (sym (m.row i l) ∙ q), mark_zero (get_or marks i 0) (leaves N S (node_id f network i)) left? z)

        module _ (p : Bool) (o : ℕ) (r : o ≡ node_offset f network i) (s : p ≡ promising f.route network o) where
          pub kept_promised : p ≡ true → Stays ≡ kept_in f network sheet k i
          unfolding kept_in
          kept_promised z = rw (
            ← e,
            not-false own? y,
            eq-eqb (row_fragment f network sheet i) k (sym (m.row i l) ∙ q),
            ← r,
            ← s,
            z,
            and-false (leaves N S (node_id f network i)),
          )

          pub kept_noted : (get_or marks i 0 ≡ 0 → ⊥) → p ≡ false → Promised ≡ kept_in f network sheet k i
          unfolding kept_in
          kept_noted d z = rw (← e, not-false own? y, eq-eqb (row_fragment f network sheet i) k (sym (m.row i l) ∙ q), mark_one (get_or marks i 0) (leaves N S (node_id f network i)) left? d, ← r, ← s, z)

  -- what is kept
  module _ (found : List ℕ) where
    -- an input is kept as it stands where it feeds the fragment
    input_piece : is_own f network i ≡ false → (t : Bool) → feeds N S (only k) (node_id f network i) ≡ t → Piece f network sheet found k i (cond t Stays Nothing)
    unfolding piece_of piece_in
    input_piece foreign true q = record { is = rw (input_box f network i foreign, q); ours = λ h. absurd (cc) }
    input_piece foreign false q = record { is = rw (input_box f network i foreign, q); ours = λ h. absurd (cc) }

    module _ (n : EntryRows f sheet_lead network sheet found) (mine : is_own f network i ≡ true) where
      -- an own node of another fragment: an input that assumes the note, where it feeds this one
      fed_piece : (number S (node_id f network i) ≡ k → ⊥) → (t : Bool) → feeds N S (only k) (node_id f network i) ≡ t → Piece f network sheet found k i (cond t Assumed Nothing)
      unfolding piece_of
      fed_piece d true q = record { is = sym (other_piece f network sheet found i l mine n k d ∙ rw (q, own_box f network i mine)); ours = λ h. mine }
      fed_piece d false q = record { is = sym (other_piece f network sheet found i l mine n k d ∙ rw q); ours = λ h. mine }

      -- an own node of this fragment
      module _ (q : number S (node_id f network i) ≡ k) where
        kept : (p : Option Route) → promised (own_in f network i).promise (leaves N S (node_id f network i)) (note S (node_id f network i)) ≡ p
            → piece_in f network sheet k i ≡ some (own (record { id = node_id f network i; initial = (own_in f network i).initial; promise = p; demand = (own_in f network i).demand }))
        kept p h = own_piece f network sheet found i l mine n k q ∙ rw h

        whole : promised (own_in f network i).promise (leaves N S (node_id f network i)) (note S (node_id f network i)) ≡ (own_in f network i).promise
            → Piece f network sheet found k i Stays
        unfolding piece_of
        whole h = record { is = sym (kept (own_in f network i).promise h ∙ rw (own_box f network i mine)); ours = λ z. mine }

        held_piece : (left says : Bool) → leaves N S (node_id f network i) ≡ left → says ≡ promising f.route network (node_offset f network i)
            → Piece f network sheet found k i (cond (left && not says) Promised Stays)
        unfolding piece_of
        held_piece false says a b = whole (rw a (promised_stays (own_in f network i).promise (note S (node_id f network i))))
        held_piece true true a b = whole (rw (promise_some f.route network (node_offset f network i) true b refl))
        held_piece true false a b = record {
          is = sym (kept (some (note_in f sheet found i)) (rw (promise_none f.route network (node_offset f network i) false b refl, a, noted f network sheet found i l mine n))
              ∙ rw (own_box f network i mine));
          ours = λ h. mine;
        }

      own_piece_is : (t : Bool) → eqb (number S (node_id f network i)) k ≡ t → Piece f network sheet found k i (cond t
          (cond (leaves N S (node_id f network i) && not (promising f.route network (node_offset f network i))) Promised Stays)
          (cond (feeds N S (only k) (node_id f network i)) Assumed Nothing))
      own_piece_is true q = held_piece (eqb-true _ _ q) (leaves N S (node_id f network i)) (promising f.route network (node_offset f network i)) refl refl
      own_piece_is false q = fed_piece (eqb-false _ _ q) (feeds N S (only k) (node_id f network i)) refl

    pub piece_is : EntryRows f sheet_lead network sheet found → Piece f network sheet found k i (kept_in f network sheet k i)
    unfolding kept_in row_fragment
    piece_is n = go (is_own f network i) refl
      where
        go : (o : Bool) → is_own f network i ≡ o → Piece f network sheet found k i (cond o
            (cond (eqb (cond o (number S (node_id f network i)) 64) k)
            (cond (leaves N S (node_id f network i) && not (promising f.route network (node_offset f network i))) Promised Stays)
            (cond (feeds N S (only k) (node_id f network i)) Assumed Nothing))
            (cond (feeds N S (only k) (node_id f network i)) Stays Nothing))
        go true q = own_piece_is n q (eqb (number S (node_id f network i)) k) refl
        go false q = input_piece q (feeds N S (only k) (node_id f network i)) refl

pub ruleset classifying = (row_small, node_there, kept_input, kept_other, kept_stays, kept_promised, kept_noted)

-- what the loop over the rows knows
pub record Classifying (f : Form) (network sheet : List ℕ) (k n i kept : ℕ) (pieces₀ pieces : List ℕ) : Type 0 where
  pub within : i ≤ n
  pub counted : kept ≡ count (keeps f network sheet k) i
  pub filled : pieces ≡ table_after (with_piece f network sheet k) i pieces₀

module _ (f : Form) (network sheet : List ℕ) (k n : ℕ) (pieces₀ : List ℕ) where
  pub classifying_start : Classifying f network sheet k n 0 0 pieces₀ pieces₀
  classifying_start = record { within = omega arith; counted = count_none _; filled = after_none (with_piece f network sheet k) pieces₀ }

  module _ (i kept : ℕ) (pieces : List ℕ) (s : Classifying f network sheet k n i kept pieces₀ pieces) where
    module _ (l : n ≤ i) (e : n ≡ node_count network) where
      done : i ≡ node_count network
      done = let w = s.within in omega arith

      pub classifying_count : kept ≡ count (keeps f network sheet k) (node_count network)
      classifying_count = rw (← done) s.counted

      pub classifying_table : pieces ≡ table_after (with_piece f network sheet k) (node_count network) pieces₀
      classifying_table = rw (← done) s.filled

    pub classifying_index : i < n → n ≡ node_count network → Room f network → i < 1024
    classifying_index l e r = row_small f network i r (omega arith)

    module _ (l : i < n) (e : n ≡ node_count network) (found : List ℕ) (h : EntryRows f sheet_lead network sheet found)
        (piece : Kept) (p : piece ≡ kept_in f network sheet k i) (t : Bool) (q : t ≡ some_kept piece) (one : ℕ) (o : one ≡ bool_byte t) where
      -- one more is kept where anything is
      keeps_some : keeps f network sheet k i ≡ t
      unfolding keeps piece_of
      keeps_some = let is = (piece_is f network sheet i (omega arith) k found h).is in
          ap (holds (λ (v : Box Route Demand). true)) (sym is) ∙ go (kept_in f network sheet k i) ∙ sym (q ∙ ap some_kept p)
        where
          go : (v : Kept) → holds (λ (v : Box Route Demand). true) (piece_of f network sheet found i v) ≡ some_kept v
          go Nothing = refl
          go Stays = refl
          go Promised = refl
          go Assumed = refl

      pub classifying_kept : n ≤ 65535 → Fits w64 (kept + one)
      classifying_kept g = let h = count_most t in let q = s.counted in omega (arith, count_le (keeps f network sheet k) i)

      pub classifying_next : (code : ℕ) → code ≡ code_of piece → Classifying f network sheet k n (i + 1) (kept + one) pieces₀ (set pieces i code)
      unfolding with_piece
      classifying_next code c = record {
        within = omega arith;
        counted = rw (s.counted, o, count_one t, ← keeps_some) (sym (count_next (keeps f network sheet k) i));
        filled = after_next (with_piece f network sheet k) pieces₀ i pieces (set pieces i code) s.filled (ap (set pieces i) (c ∙ ap code_of p));
      }

pub ruleset classifications = (classifying_start, classifying_count, classifying_table, classifying_index, classifying_kept, classifying_next)

-- a code says the way that it is of
pub by_code : (kept : Kept) → kept_by (code_of kept) ≡ kept
by_code Nothing = refl
by_code Stays = refl
by_code Promised = refl
by_code Assumed = refl

-- what the table of all rows holds
pub pieces_made : (f : Form) (network sheet found : List ℕ) (k : ℕ) (pieces : List ℕ) → Room f network → EntryRows f sheet_lead network sheet found
    → pieces ≡ table_after (with_piece f network sheet k) (node_count network) (replicate 1024 0) → Pieces f network sheet found k pieces
unfolding with_piece
pieces_made f network sheet found k pieces r h d =
    let few = r.few in
    let most = r.usable.few in
    record {
      row = λ i l. rw (
        d,
        after_stored (λ (i : ℕ). code_of (kept_in f network sheet k i)) 0 (replicate 1024 0) (node_count network) (omega (arith, length-replicate {A = ℕ} 1024 0)) i l,
        by_code (kept_in f network sheet k i),
      )
          (piece_is f network sheet i l k found h);
    }

-- The table of fragment numbers, as the code fills and reads it.
--     numbering                   the number of one row, and the loop over the rows
--     fragments_numbered          what the table holds
--     asking, outside_is          whether a row is an own one of a fragment (18)
--     entered_is                  what 17 asks of a row, as the sheet says it
use Prim.Native.Nat.{ℕ, ◌+◌, ◌^◌, ◌≤◌, ◌<◌}
use native.Mathlib.Omega.{arith}
use mathlib.Core.Bool.{Bool, true, false, cond, not, ◌&&◌, ◌||◌, and-true, and-false}
use mathlib.Core.List.{List}
use mathlib.Core.Path.{◌≡◌, refl, sym, ap, ◌∙◌}
use lib.Dec.{eqb, ltb}
use lib.ListN.{length, get_or, set, replicate, length-replicate}
use borrow.Author.Tests.{eq-eqb, ne_eqb, ltb-true, ltb-false, not-true, not-false}
use mir.Syntax.{w64}
use mir.Val.{Fits}
use Rattle.lists.specs.Gather.{table_after}
use Rattle.lists.proofs.Gather.{after_none, after_next, after_stored}
use Rattle.routes.specs.declared.Demand.{Demand}
use Rattle.routes.specs.declared.Route.{Route}
use Rattle.lists.specs.Answer.{is_some}
use Rattle.networks.specs.Cut.{numbered}
use Rattle.networks.specs.Network.{Own}
use Rattle.networks.specs.Sheets.{number, note}
use Rattle.records.specs.Checked.{CheckedEntries}
use Rattle.records.specs.Entered.{entry_in, entered, EntryRows}
use Rattle.layout.specs.Layout.{Room, entry_count, entry_offset, node_count}
use Rattle.layout.specs.Form.{sheet_lead}
use Rattle.nodes.specs.Node.{node_id, is_own}
use Rattle.layout.proofs.Places.{entry_room}
use Rattle.layout.specs.declared.Form.{Form}
use Rattle.reading.specs.Whole.{read_network, read_sheet}
use Rattle.marking.specs.Tables.{own_meets, outside, row_fragment, with_fragment, Numbered}
use Rattle.marking.proofs.Said.{meets_own, meets_input, note_there, note_none, number_there}

-- the number of one row
module _ (f : Form) (network sheet : List ℕ) (i : ℕ) (t : Bool) (e : t ≡ is_own f network i) where
  pub input_fragment : not t ≡ true → 64 ≡ row_fragment f network sheet i
  unfolding row_fragment
  input_fragment y = rw (← e, not-true t y)

  module _ (y : not t ≡ false) (found : List ℕ) (h : EntryRows f sheet_lead network sheet found) (l : i < node_count network) (entry : ℕ) (q : entry ≡ get_or found i 0) where
    ours : is_own f network i ≡ true
    ours = sym e ∙ not-false t y

    entry_is : entry ≡ entry_in f sheet_lead network sheet i
    entry_is = q ∙ (h.row i l ours).is

    there : entry < entry_count sheet
    there = rw q (h.row i l ours).there

    module _ (at : ℕ) (a : at ≡ entry_offset f sheet_lead entry) where
      pub own_room : CheckedEntries f sheet_lead sheet → at + 2 < length sheet
      own_room s = let r = entry_room f sheet_lead sheet s.room entry there in let u = s.room.usable.wide in omega arith

      pub own_sum : CheckedEntries f sheet_lead sheet → length sheet < 2 ^ 64 → Fits w64 (at + 2)
      own_sum s b = let r = own_room s in omega arith

      pub own_fragment : get_or sheet (at + 2) 0 ≡ row_fragment f network sheet i
      unfolding row_fragment
      own_fragment = rw (ours, number_there f sheet (node_id f network i) (rw (← entry_is) there), ← entry_is, a)

pub row_small : (f : Form) (network : List ℕ) (i : ℕ) → Room f network → i < node_count network → i < 1024
row_small f network i r l = let few = r.few in let most = r.usable.few in omega arith

pub entry_low : (entry : ℕ) → entry < 65536 → entry ≤ 65535
entry_low entry l = omega arith

-- what the loop over the rows knows
pub record Numbering (f : Form) (network sheet : List ℕ) (n i : ℕ) (fragments₀ fragments : List ℕ) : Type 0 where
  pub within : i ≤ n
  pub filled : fragments ≡ table_after (with_fragment f network sheet) i fragments₀

module _ (f : Form) (network sheet : List ℕ) (n : ℕ) (fragments₀ : List ℕ) where
  pub numbering_start : Numbering f network sheet n 0 fragments₀ fragments₀
  numbering_start = record { within = omega arith; filled = after_none (with_fragment f network sheet) fragments₀ }

  module _ (i : ℕ) (fragments : List ℕ) (h : Numbering f network sheet n i fragments₀ fragments) where
    pub numbering_end : n ≤ i → n ≡ node_count network → fragments ≡ table_after (with_fragment f network sheet) (node_count network) fragments₀
    numbering_end l q = let w = h.within in let e : i ≡ node_count network = omega arith in rw (← e) h.filled

    pub numbering_row : i < n → n ≡ node_count network → i < node_count network
    numbering_row l e = omega arith

    pub numbering_index : i < n → n ≡ node_count network → Room f network → i < 1024
    numbering_index l e r = row_small f network i r (omega arith)

    pub numbering_next : (v : ℕ) → i < n → v ≡ row_fragment f network sheet i → Numbering f network sheet n (i + 1) fragments₀ (set fragments i v)
    unfolding with_fragment
    numbering_next v l e = record {
      within = omega arith;
      filled = after_next (with_fragment f network sheet) fragments₀ i fragments (set fragments i v) h.filled (ap (set fragments i) e);
    }

pub ruleset numbering = (input_fragment, own_room, own_sum, own_fragment, row_small, entry_low, numbering_start, numbering_end, numbering_row, numbering_index, numbering_next)

-- what the table of all rows holds
pub fragments_numbered : (f : Form) (network sheet fragments : List ℕ) → Room f network
    → fragments ≡ table_after (with_fragment f network sheet) (node_count network) (replicate 1024 0) → Numbered f network sheet fragments
unfolding with_fragment
fragments_numbered f network sheet fragments r d =
    let few = r.few in
    let most = r.usable.few in
    record {
      row = λ i l. rw d (after_stored (row_fragment f network sheet) 0 (replicate 1024 0) (node_count network) (omega (arith, length-replicate {A = ℕ} 1024 0)) i l);
    }

-- whether a row is an own one of fragment k
module _ (f : Form) (network fragments : List ℕ) (k i : ℕ) where
  pub outside_number : (get_or fragments i 0 ≡ k → ⊥) → true ≡ outside f network fragments k i
  unfolding outside
  outside_number d = rw (ne_eqb (get_or fragments i 0) k d, and-false (is_own f network i))

  pub outside_own : (t : Bool) → get_or fragments i 0 ≡ k → t ≡ is_own f network i → not t ≡ outside f network fragments k i
  unfolding outside
  outside_own t q e = rw (eq-eqb (get_or fragments i 0) k q, and-true (is_own f network i), e)

  -- what the sheet says of it
  pub outside_is : (sheet : List ℕ) → Numbered f network sheet fragments → i < node_count network
      → outside f network fragments k i ≡ not (own_meets f network (numbered (read_network f network) (read_sheet f sheet) k) i)
  unfolding outside row_fragment
  outside_is sheet m l = go (is_own f network i) refl (m.row i l)
    where
      go : (t : Bool) → is_own f network i ≡ t → get_or fragments i 0 ≡ cond t (number (read_sheet f sheet) (node_id f network i)) 64
          → not (t && eqb (get_or fragments i 0) k) ≡ not (own_meets f network (numbered (read_network f network) (read_sheet f sheet) k) i)
      go true q e = rw (meets_own f network i q (numbered (read_network f network) (read_sheet f sheet) k), e)
      go false q e = rw (meets_input f network i q (numbered (read_network f network) (read_sheet f sheet) k))

pub ruleset asking = (row_small, outside_number, outside_own)

-- what 17 asks of a row, as the sheet says it
module _ (f : Form) (network sheet : List ℕ) (i : ℕ) where
  abbrev unnoted : Own Route Demand → Bool
  unnoted b = not (is_some (note (read_sheet f sheet) b.id))

  pub entered_is : entered f sheet_lead network sheet i ≡ not (own_meets f network (λ (b : Own Route Demand). not (is_some (note (read_sheet f sheet) b.id))) i)
  unfolding entered
  entered_is = go (is_own f network i) (ltb (entry_in f sheet_lead network sheet i) (entry_count sheet)) refl refl
    where
      go : (t s : Bool) → is_own f network i ≡ t → ltb (entry_in f sheet_lead network sheet i) (entry_count sheet) ≡ s
          → not t || s ≡ not (own_meets f network (λ (b : Own Route Demand). not (is_some (note (read_sheet f sheet) b.id))) i)
      go true true q p = rw (meets_own f network i q unnoted, note_there f sheet (node_id f network i) (ltb-true _ _ p))
      go true false q p = rw (meets_own f network i q unnoted, note_none f sheet (node_id f network i) (ltb-false _ _ p))
      go false s q p = rw (meets_input f network i q unnoted)

-- The node in a row: its room, its note by the table of entries, and what a fragment keeps of it.
--     index_small, node_there, promise_there     the row's places
--     note_.., noted                             its note
--     own_piece, other_piece                     an own box in its fragment, and in another one
use Prim.Native.Nat.{ℕ, ◌+◌, ◌^◌, ◌≤◌, ◌<◌}
use native.Mathlib.Omega.{arith}
use mathlib.Core.Bool.{true, cond}
use mathlib.Core.List.{List}
use mathlib.Core.Option.{none, some}
use mathlib.Core.Path.{◌≡◌, ap, ◌∙◌}
use lib.ListN.{length, get_or}
use borrow.Author.Tests.{eq-eqb, ne_eqb}
use mir.Syntax.{w16, w64}
use mir.Val.{Fits}
use Rattle.lists.specs.Stride.{at}
use Rattle.networks.specs.Cut.{leaves, feeds, only, promised, piece}
use Rattle.networks.specs.Network.{own, input}
use Rattle.networks.specs.Sheets.{number, note}
use Rattle.layout.specs.Layout.{entry_count, entry_offset, node_count, node_offset}
use Rattle.layout.specs.Form.{sheet_lead, node_width}
use Rattle.nodes.specs.Node.{node_id, is_own}
use Rattle.layout.proofs.Places.{entry_room, node_room}
use Rattle.layout.specs.declared.Form.{Form}
use Rattle.reading.specs.Whole.{HouseNetwork, HouseSheet, read_network, read_sheet}
use Rattle.marking.specs.Pieces.{note_offset, note_in, piece_in}
use Rattle.records.specs.Checked.{CheckedNetwork, CheckedEntries}
use Rattle.records.specs.Entered.{EntryRows}
use Rattle.reading.specs.Rows.{own_in}
use Rattle.marking.proofs.Said.{own_box, note_there}

module _ (f : Form) (network : List ℕ) (c : CheckedNetwork f network) (i : ℕ) (l : i < node_count network) where
  pub index_small : i < 1024
  index_small = let r = c.room.few in let u = c.room.usable.few in omega arith

  pub node_there : (at : ℕ) → at ≡ node_offset f network i → at + (9 + f.route + f.route) ≤ length network
  unfolding node_width
  node_there at e = rw e (node_room f network c.room i l)

  pub promise_there : (at : ℕ) → at ≡ node_offset f network i → at + 4 + f.route + f.route ≤ length network
  promise_there at e = let h = node_there at e in omega arith

module _ (f : Form) (network sheet found : List ℕ) (i : ℕ) (l : i < node_count network) (ours : is_own f network i ≡ true)
    (n : EntryRows f sheet_lead network sheet found) where
  entry_there : get_or found i 0 < entry_count sheet
  entry_there = (n.row i l ours).there

  -- where the note stands
  module _ (entry : ℕ) (e : entry ≡ get_or found i 0) where
    pub note_entry : Fits w16 entry → entry ≤ 65535
    note_entry g = omega arith

    module _ (at : ℕ) (q : at ≡ entry_offset f sheet_lead entry) where
      pub note_offset_lem : at + 3 ≡ note_offset f found i
      unfolding note_offset
      note_offset_lem = rw (q, e)

      pub note_room : CheckedEntries f sheet_lead sheet → at + 3 + f.route ≤ length sheet
      note_room s = let h = entry_room f sheet_lead sheet s.room entry (rw e entry_there) in omega arith

      pub note_sum : CheckedEntries f sheet_lead sheet → length sheet < 2 ^ 64 → Fits w64 (at + 3)
      note_sum s g = let h = note_room s in omega arith

  abbrev N : HouseNetwork
  N = read_network f network

  abbrev S : HouseSheet
  S = read_sheet f sheet

  -- the note that the sheet has for the box
  pub noted : note S (node_id f network i) ≡ some (note_in f sheet found i)
  unfolding note_in note_offset
  noted =
      let e = (n.row i l ours).is in
      note_there f sheet (node_id f network i) (rw (← e) entry_there) ∙ rw (← e)

  -- the own box in its fragment
  pub own_piece : (k : ℕ) → number S (node_id f network i) ≡ k → piece_in f network sheet k i
      ≡ some (own (record {
        id = node_id f network i;
        initial = (own_in f network i).initial;
        promise = promised (own_in f network i).promise (leaves N S (node_id f network i)) (note S (node_id f network i));
        demand = (own_in f network i).demand;
      }))
  unfolding piece_in
  own_piece k e = ap (piece N S (only k)) (own_box f network i ours) ∙ rw (eq-eqb (number S (node_id f network i)) k e)

  -- and in another one
  pub other_piece : (k : ℕ) → (number S (node_id f network i) ≡ k → ⊥) → piece_in f network sheet k i
      ≡ cond (feeds N S (only k) (node_id f network i)) (some (input (record { id = node_id f network i; assumed = note_in f sheet found i }))) none
  unfolding piece_in
  other_piece k d = ap (piece N S (only k)) (own_box f network i ours) ∙ rw (ne_eqb (number S (node_id f network i)) k d, noted)

pub ruleset noting = (index_small, note_entry, note_offset_lem, note_room, note_sum)

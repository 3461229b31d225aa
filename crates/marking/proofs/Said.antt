-- What the two records say of the node in a row: its box, its entry in the sheet, its fragment number and its note.
--     own_box, input_box, meets_own, meets_input     the box in a row
--     entry_le, note_there, note_none, number_there         the sheet's entry for an id
use Prim.Native.Nat.{ℕ, ◌+◌, ◌≤◌, ◌<◌}
use mathlib.Core.Bool.{Bool, true, false}
use mathlib.Core.List.{List}
use mathlib.Core.Option
use mathlib.Core.Option.{Option, none, some, map}
use mathlib.Core.Path.{◌≡◌, ap, ◌∙◌}
use lib.ListN.{get_or}
use borrow.Author.Tests.{lt-ltb, le-ltb}
use Rattle.lists.specs.Filter.{holds}
use Rattle.lists.proofs.First.{first_le}
use Rattle.lists.specs.Rising.{place}
use Rattle.lists.proofs.Table.{row_at, find_rows}
use Rattle.routes.specs.Form.{route_at}
use Rattle.routes.specs.declared.Demand.{Demand}
use Rattle.routes.specs.declared.Route.{Route}
use Rattle.networks.specs.Network.{Own, Box, own, input, as_own}
use Rattle.networks.specs.Sheets.{SheetEntry, sheet_entry, number, note}
use Rattle.layout.specs.Layout.{entry_count, entry_offset}
use Rattle.entries.specs.Entries.{entry_id, entry_of}
use Rattle.layout.specs.Form.{entry_width, sheet_lead}
use Rattle.nodes.specs.Node.{is_own}
use Rattle.layout.specs.declared.Form.{Form}
use Rattle.reading.specs.Parts.{sheet_entry_at}
use Rattle.reading.specs.Rows.{own_in, input_in}
use Rattle.reading.proofs.Said.{own_row, input_row}
use Rattle.reading.specs.Whole.{HouseSheet, read_sheet}
use Rattle.marking.specs.Tables.{box_in, own_meets}

module _ (f : Form) (network : List ℕ) (i : ℕ) where
  module _ (h : is_own f network i ≡ true) where
    pub own_box : box_in f network i ≡ own (own_in f network i)
    unfolding box_in
    own_box = own_row f network i h

    pub meets_own : (test : Own Route Demand → Bool) → own_meets f network test i ≡ test (own_in f network i)
    unfolding own_meets
    meets_own test = ap (λ (v : Box Route Demand). holds test (as_own v)) own_box

  module _ (h : is_own f network i ≡ false) where
    pub input_box : box_in f network i ≡ input (input_in f network i)
    unfolding box_in
    input_box = input_row f network i h

    pub meets_input : (test : Own Route Demand → Bool) → own_meets f network test i ≡ false
    unfolding own_meets
    meets_input test = ap (λ (v : Box Route Demand). holds test (as_own v)) input_box

module _ (f : Form) (sheet : List ℕ) (x : ℕ) where
  abbrev S : HouseSheet
  S = read_sheet f sheet

  abbrev entry : ℕ
  entry = entry_of f sheet_lead sheet x

  found : sheet_entry S x ≡ row_at (λ (e : SheetEntry Route). e.id) (sheet_entry_at f.route sheet) (entry_width f sheet_lead) 7 (entry_count sheet) entry
  unfolding read_sheet entry_of entry_id entry_offset sheet_entry_at
  found = find_rows (λ (e : SheetEntry Route). e.id) (sheet_entry_at f.route sheet) (entry_width f sheet_lead) 7 (entry_count sheet) x

  pub entry_le : entry ≤ entry_count sheet
  unfolding entry_of place
  entry_le = first_le _ (entry_count sheet)

  module _ (l : entry < entry_count sheet) where
    pub note_there : note S x ≡ some (route_at f.route sheet (entry_offset f sheet_lead entry + 3))
    unfolding note entry_offset sheet_entry_at
    note_there = ap (map (λ (e : SheetEntry Route). e.note)) found ∙ rw (lt-ltb entry (entry_count sheet) l)

    pub number_there : number S x ≡ get_or sheet (entry_offset f sheet_lead entry + 2) 0
    unfolding number entry_offset sheet_entry_at
    number_there =
        ap (λ (e : Option (SheetEntry Route)). Option.get_or (map (λ (e : SheetEntry Route). e.fragment) e) 64) found
        ∙ rw (lt-ltb entry (entry_count sheet) l)

  pub note_none : entry_count sheet ≤ entry → note S x ≡ none
  unfolding note
  note_none l = ap (map (λ (e : SheetEntry Route). e.note)) found ∙ rw (le-ltb entry (entry_count sheet) l)

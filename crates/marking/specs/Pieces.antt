-- What the fragment keeps of each row of the network's nodes.
--     note_offset, note_in        the note of a row
--     piece_in, keeps            what is kept of the box in a row, and whether anything is
--     kept_in                    which of the four ways it is kept
--     code_of, kept_by           its code, and the way that a code says
--     with_piece                 the table of the codes
--     piece_of, Piece, Pieces    what each way says
use Rattle.std.specs.Prelude.{ℕ, ◌+◌, ◌<◌, Bool, true, false, cond, not, ◌&&◌, List, ◌≡◌, eqb, get_or, set}
use Rattle.std.proofs.Math.Option.{Option, none, some}
use Rattle.lists.specs.Filter.{holds}
use Rattle.routes.specs.Form.{route_at}
use Rattle.routes.specs.declared.Demand.{Demand}
use Rattle.routes.specs.declared.Route.{Route}
use Rattle.networks.specs.Cut.{leaves, feeds, only, piece}
use Rattle.networks.specs.Network.{Box, own, input, box_id}
use Rattle.layout.specs.Layout.{entry_offset, node_count, node_offset}
use Rattle.layout.specs.Form.{sheet_lead}
use Rattle.nodes.specs.Node.{is_own, node_id, promising}
use Rattle.layout.specs.declared.Form.{Form}
use Rattle.reading.specs.Whole.{read_network, read_sheet, HouseNetwork, HouseSheet}
use Rattle.marking.specs.Tables.{box_in, row_fragment}
use Rattle.marking.specs.declared.pieces.Kept.{Kept}
use Rattle.marking.specs.declared.pieces.Kept.TheVariants.{Nothing, Stays, Promised, Assumed}

-- an own box with another promise; an input has none
abbrev pub with_promise : Box Route Demand → Route → Box Route Demand
with_promise (own b) noted = own (record { id = b.id; initial = b.initial; promise = some noted; demand = b.demand })
with_promise (input a) noted = input a

-- a box as an input that is assumed to hold a note
abbrev pub assumed_box : Box Route Demand → Route → Box Route Demand
assumed_box v note = input (record { id = box_id v; assumed = note })

-- the offset of the note for row i, by the table of entries
unfoldable pub note_offset : Form → List ℕ → ℕ → ℕ
note_offset f found i = entry_offset f sheet_lead (get_or found i 0) + 3

-- the note for row i
unfoldable pub note_in : Form → List ℕ → List ℕ → ℕ → Route
note_in f sheet found i = route_at f.route sheet (note_offset f found i)

-- anything is kept of a row
abbrev pub some_kept : Kept → Bool
some_kept Nothing = false
some_kept Stays = true
some_kept Promised = true
some_kept Assumed = true

-- the code of a way
abbrev pub code_of : Kept → ℕ
code_of Nothing = 0
code_of Stays = 1
code_of Promised = 2
code_of Assumed = 3

-- the way that a code says
abbrev pub kept_by : ℕ → Kept
kept_by code = cond (eqb code 0) Nothing (cond (eqb code 1) Stays (cond (eqb code 2) Promised Assumed))

-- its note is kept
abbrev pub with_note : Kept → Bool
with_note Nothing = false
with_note Stays = false
with_note Promised = true
with_note Assumed = true

module _ (f : Form) (network sheet : List ℕ) where
  abbrev N : HouseNetwork
  N = read_network f network

  abbrev S : HouseSheet
  S = read_sheet f sheet

  -- what the fragment keeps of the box in row i
  unfoldable pub piece_in : ℕ → ℕ → Option (Box Route Demand)
  piece_in k i = piece N S (only k) (box_in f network i)

  -- anything is kept of it
  unfoldable pub keeps : ℕ → ℕ → Bool
  keeps k i = holds (λ (v : Box Route Demand). true) (piece_in k i)

  -- what is kept of the node in row i, by the tables' tests
  unfoldable pub kept_in : ℕ → ℕ → Kept
  kept_in k i =
      cond (is_own f network i)
      (cond (eqb (row_fragment f network sheet i) k)
      (cond (leaves N S (node_id f network i) && not (promising f.route network (node_offset f network i))) Promised Stays)
      (cond (feeds N S (only k) (node_id f network i)) Assumed Nothing))
      (cond (feeds N S (only k) (node_id f network i)) Stays Nothing)

  -- the table with the code of row i
  unfoldable pub with_piece : ℕ → ℕ → List ℕ → List ℕ
  with_piece k i table = set table i (code_of (kept_in k i))

  -- what is kept of row i, as a box
  unfoldable pub piece_of : List ℕ → ℕ → Kept → Option (Box Route Demand)
  piece_of found i Nothing = none
  piece_of found i Stays = some (box_in f network i)
  piece_of found i Promised = some (with_promise (box_in f network i) (note_in f sheet found i))
  piece_of found i Assumed = some (assumed_box (box_in f network i) (note_in f sheet found i))

  -- this is what fragment k keeps of row i; a note is kept of own boxes only
  pub record Piece (found : List ℕ) (k i : ℕ) (kept : Kept) : Type 0 where
    pub is : piece_of found i kept ≡ piece_in k i
    pub ours : with_note kept ≡ true → is_own f network i ≡ true

  -- the table holds the codes of all rows
  pub record Pieces (found : List ℕ) (k : ℕ) (pieces : List ℕ) : Type 0 where
    pub row : (i : ℕ) → i < node_count network → Piece found k i (kept_by (get_or pieces i 0))

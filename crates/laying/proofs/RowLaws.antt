-- Which bytes are kept of a row, as the code finds it.
--     keeping               the node in a row, by what is kept of it
--     reaching, offsets     an edge, by its to end; its offset in the loop
use Prim.Native.Nat.{ℕ, ◌+◌, ◌-◌, ◌^◌, ◌≤◌, ◌<◌}
use native.Mathlib.Omega.{arith}
use mathlib.Core.Bool.{true}
use mathlib.Core.List.{List, []}
use mathlib.Core.Path.{◌≡◌, refl, ap}
use lib.Dec.{eqb, leb}
use lib.ListN.{length, get_or, take, drop}
use mir.Syntax.{w64}
use mir.Val.{Fits}
use borrow.Author.Tests.{eq-eqb, ne_eqb, eqb-true}
use Rattle.lists.specs.Gather.{joined}
use Rattle.lists.proofs.Test.{and_r}
use Rattle.lists.specs.Rising.{least}
use Rattle.numbers.specs.BigEndian.{u16_at}
use Rattle.routes.specs.Form.{route_at, route_formed}
use Rattle.routes.specs.declared.Demand.{Demand}
use Rattle.routes.specs.declared.Route.{Route}
use Rattle.networks.specs.Network.{Box, input}
use Rattle.layout.specs.Form.{node_width, sheet_lead}
use Rattle.layout.specs.Layout.{node_count, edge_count, node_offset, edge_offset, entry_offset}
use Rattle.entries.specs.Entries.{entry_id, fragment_formed, entry_formed, entry_ok}
use Rattle.nodes.specs.Node.{node_id, node_formed, node_ok, is_own, row_of}
use Rattle.layout.proofs.Places.{node_room, edge_room, edge_after, entry_room}
use Rattle.layout.specs.declared.Form.{Form}
use Rattle.reading.specs.Parts.{box_at, box_bytes, wire_at, wire_bytes}
use Rattle.reading.proofs.Said.{box_id_at}
use Rattle.marking.specs.Marks.{reaches}
use Rattle.marking.specs.Pieces.{note_offset, note_in, with_promise, piece_of, kept_by}
use Rattle.records.specs.Checked.{CheckedNetwork, CheckedEntries}
use Rattle.records.specs.Entered.{EntryRows}
use Rattle.marking.specs.declared.Kept.{Kept}
use Rattle.marking.specs.declared.Kept.TheVariants.{Nothing, Stays, Promised, Assumed}
use Rattle.marking.specs.Tables.{box_in}
use Rattle.marking.proofs.MarkLaws.{to_room, to_there, edge_reaches}
use Rattle.marking.proofs.Said.{own_box}
use Rattle.writing.specs.Rows.{promised_at, NodeAt, OwnAt, RouteAt, EdgeAt}
use Rattle.writing.proofs.RunLaws.{Laying, box_room, wire_room, lay_fits}
use Rattle.laying.specs.Pieces.{node_bytes, edge_bytes, NotesOfOwn}

module _ (f : Form) (network sheet entries : List ℕ) (pieces : List ℕ) (c : CheckedNetwork f network) (s : CheckedEntries f sheet_lead sheet)
    (n : EntryRows f sheet_lead network sheet entries) (own : NotesOfOwn f network pieces) (i : ℕ) (l : i < node_count network)
    (kept : Kept) (k : kept ≡ kept_by (get_or pieces i 0)) where
  abbrev w : ℕ
  w = f.route

  abbrev run : List ℕ
  run = node_bytes f network sheet entries pieces i

  pub as_none : kept ≡ Nothing → run ≡ []
  unfolding node_bytes piece_of
  as_none z = rw (← k, z)

  pub promised_ours : kept ≡ Promised → is_own f network i ≡ true
  unfolding NotesOfOwn
  promised_ours z = own i l (rw (← k, z))

  -- the note of an own box is a route of the sheet
  module _ (note : ℕ) (q : note ≡ note_offset f entries i) where
    pub note_at : is_own f network i ≡ true → RouteAt f sheet note
    unfolding note_offset entry_ok entry_formed
    note_at ours =
        let entry = get_or entries i 0 in
        let o = entry_offset f sheet_lead entry in
        let l = (n.row i l ours).there in
        let h = entry_room f sheet_lead sheet s.room entry l in
        let sound = and_r (leb (least (entry_id f sheet_lead sheet) entry) (entry_id f sheet_lead sheet entry)) (entry_formed f sheet_lead sheet o) (s.formed.entries entry l) in
        let formed = and_r (fragment_formed f sheet_lead sheet o) (route_formed w sheet (o + 3)) sound in
        record { usable = c.room.usable; bytes = s.bytes; there = rw q (omega arith); formed = rw q formed }

  module _ (at : ℕ) (e : at ≡ node_offset f network i) where
    pub node_at : NodeAt f network at
    unfolding node_ok
    node_at =
        let sound = and_r (leb (least (node_id f network) i) (node_id f network i)) (node_formed w network (node_offset f network i)) (c.sound.nodes i l) in
        record { usable = c.room.usable; bytes = c.bytes; there = rw e (node_room f network c.room i l); formed = rw e sound }

    pub as_whole : kept ≡ Stays → run ≡ box_bytes w (box_at w network at)
    unfolding node_bytes piece_of box_in
    as_whole z = rw (← k, z, e)

    module _ (z : kept ≡ Promised) where
      pub own_at : OwnAt f network at
      unfolding is_own
      own_at = record { node = node_at; ours = rw e (eqb-true _ _ (promised_ours z)) }

      pub as_promised : (note : ℕ) → note ≡ note_offset f entries i → run ≡ box_bytes w (promised_at w network at (route_at w sheet note))
      unfolding node_bytes piece_of promised_at node_id note_in
      as_promised note q = rw (← k, z, q, e) (ap (λ (v : Box Route Demand). box_bytes w (with_promise v (note_in f sheet entries i))) (own_box f network i (promised_ours z)))

  module _ (z : kept ≡ Assumed) where
    pub assumed_ours : is_own f network i ≡ true
    unfolding NotesOfOwn
    assumed_ours = own i l (rw (← k, z))

    pub as_assumed : (id note : ℕ) → id ≡ node_id f network i → note ≡ note_offset f entries i → run ≡ box_bytes w (input (record { id = id; assumed = route_at w sheet note }))
    unfolding node_bytes piece_of box_in node_id note_in
    as_assumed id note e q =
        rw (← k, z, e, q)
        (ap (λ (n : ℕ). box_bytes w (input (record { id = n; assumed = note_in f sheet entries i }))) (box_id_at w network (node_offset f network i)))

  -- a node is as wide, whatever is kept of it
  module _ (out : List ℕ) (h : length run ≤ length out) where
    fits : (v : Box Route Demand) → run ≡ box_bytes w v → node_width f ≤ length out
    fits v e = box_room run out h f v e c.room.usable

    pub whole_room : kept ≡ Stays → node_width f ≤ length out
    whole_room z = fits _ (as_whole _ refl z)

    pub promised_room : kept ≡ Promised → node_width f ≤ length out
    promised_room z = fits _ (as_promised _ refl z _ refl)

    pub assumed_room : kept ≡ Assumed → node_width f ≤ length out
    assumed_room z = fits _ (as_assumed z _ _ refl refl)

pub ruleset keeping = (as_none, promised_ours, note_at, node_at, as_whole, whole_room, own_at, as_promised, promised_room, assumed_ours, as_assumed, assumed_room)

module _ (f : Form) (network fragments : List ℕ) (k : ℕ) (c : CheckedNetwork f network) (j at : ℕ) (l : j < edge_count network) (e : at ≡ edge_offset f network j) where
  pub edge_at : EdgeAt network at
  edge_at = record { bytes = c.bytes; there = rw e (edge_room f network c.room j l) }

  module _ (id row : ℕ) (p : id ≡ u16_at network at) (r : row ≡ row_of f network id) where
    reach : eqb (get_or fragments row 0) k ≡ reaches f network fragments k j
    reach = edge_reaches f network c j at l e fragments k id row p r

    pub as_off : (get_or fragments row 0 ≡ k → ⊥) → edge_bytes f network fragments k j ≡ []
    unfolding edge_bytes
    as_off d = rw (← reach, ne_eqb (get_or fragments row 0) k d)

    pub as_on : get_or fragments row 0 ≡ k → edge_bytes f network fragments k j ≡ wire_bytes (wire_at network at)
    unfolding edge_bytes
    as_on d = rw (← reach, eq-eqb (get_or fragments row 0) k d, e)

    pub on_room : get_or fragments row 0 ≡ k → (out : List ℕ) → length (edge_bytes f network fragments k j) ≤ length out → 5 ≤ length out
    on_room d out h = wire_room _ out h (wire_at network at) (as_on d)

pub ruleset reaching = (to_room, to_there, edge_at, as_off, as_on, on_room)

-- the offset that the loop over the edges carries
module _ (f : Form) (network : List ℕ) (c : CheckedNetwork f network) (j at : ℕ) (e : at ≡ edge_offset f network j) where
  pub edge_on : at + 5 ≡ edge_offset f network (j + 1)
  edge_on = omega (arith, edge_after f network j)

  pub edge_sum : (n : ℕ) → j < n → n ≡ edge_count network → length network < 2 ^ 64 → Fits w64 (at + 5)
  edge_sum n l q g = omega (arith, edge_room f network c.room j (omega arith))

pub ruleset offsets = (edge_on, edge_sum)

-- the next row fits in what remains
module _ (f : Form) (network : List ℕ) (n : ℕ) (out₀ out : List ℕ) (i o : ℕ) where
  pub node_fits : (sheet entries : List ℕ) (pieces : List ℕ) → Laying (node_bytes f network sheet entries pieces) (node_count network) out₀ out i o
      → length (joined (node_bytes f network sheet entries pieces) (node_count network)) ≤ length out₀ → n ≡ node_count network → i < n
      → length (node_bytes f network sheet entries pieces i) ≤ length (take (length out - o) (drop o out))
  node_fits sheet entries pieces = lay_fits (node_bytes f network sheet entries pieces) (node_count network) n out₀ out i o

  pub edge_fits : (fragments : List ℕ) (k : ℕ) → Laying (edge_bytes f network fragments k) (edge_count network) out₀ out i o
      → length (joined (edge_bytes f network fragments k) (edge_count network)) ≤ length out₀ → n ≡ edge_count network → i < n
      → length (edge_bytes f network fragments k i) ≤ length (take (length out - o) (drop o out))
  edge_fits fragments k = lay_fits (edge_bytes f network fragments k) (edge_count network) n out₀ out i o

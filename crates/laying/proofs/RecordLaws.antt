-- The record of the fragment is the parts that are laid down for the rows of the network.
--     boxes_are, boxes_count, wires_are, wires_count     the boxes and wires of the fragment, by the rows
--     recording                                          the record, as the code counts it
use Prim.Native.Nat.{ℕ, ◌<◌}
use native.Mathlib.Omega.{arith}
use mathlib.Core.Bool.{Bool, true, false, cond}
use mathlib.Core.List.{List, filter_map, map-id}
use mathlib.Core.Option.{none, some}
use mathlib.Core.Path.{◌≡◌, refl, sym, ap, ◌∙◌}
use lib.ListN.{length}
use mir.Syntax.{w16}
use mir.Val.{Fits}
use Rattle.lists.specs.Filter.{filter, holds}
use Rattle.lists.proofs.Filter.{map_filter}
use Rattle.lists.specs.Gather.{count, gathered}
use Rattle.lists.proofs.Gather.{count_ext, count_le, gathered_rows, gathered_count, gathered_ext}
use Rattle.lists.specs.Laid.{placed}
use Rattle.lists.specs.Rows.{rows}
use Rattle.networks.specs.Cut.{only, piece, fragment_of}
use Rattle.networks.specs.Network.{Wire}
use Rattle.networks.specs.Sheets.{number}
use Rattle.records.specs.Edge.{edge_to}
use Rattle.layout.specs.Form.{node_width}
use Rattle.layout.specs.Layout.{node_count, edge_count, policy_count, node_part, node_offset, edge_part, edge_offset}
use Rattle.layout.specs.declared.Form.{Form}
use Rattle.reading.specs.Parts.{box_at, wire_at}
use Rattle.reading.specs.Whole.{HouseNetwork, read_network, read_sheet, write_network}
use Rattle.marking.specs.Marks.{reaches}
use Rattle.marking.specs.Pieces.{piece_in, keeps, Pieces}
use Rattle.writing.specs.Heads.{size_of}
use Rattle.laying.specs.Pieces.{node_bytes, edge_bytes, fragment_in, NotesOfOwn, box_kept, wire_kept, FragmentParts}
use Rattle.records.specs.Checked.{CheckedNetwork}
use Rattle.marking.specs.Tables.{box_in, Numbered}
use Rattle.marking.proofs.MarkSaid.{reaches_is}
use Rattle.writing.proofs.Parts.{record_kept}
use Rattle.writing.proofs.Selected.{Selected, selected_parts}

-- the elements that meet a test, as a partial function gives them
filter_kept : {A : Type 0} (p : A → Bool) (xs : List A) → filter p xs ≡ filter_map (λ (x : A). cond (p x) (some x) none) xs
filter_kept {A} p xs = sym (map-id (filter p xs)) ∙ map_filter (λ (x : A). x) p xs

-- what is kept with a note is an own node
pub notes_of_own : (f : Form) (network sheet entries : List ℕ) (k : ℕ) (pieces : List ℕ) → Pieces f network sheet entries k pieces → NotesOfOwn f network pieces
unfolding NotesOfOwn
notes_of_own f network sheet entries k pieces p i l = (p.row i l).ours

module _ (f : Form) (network sheet entries fragments : List ℕ) (k : ℕ) (pieces : List ℕ) (c : CheckedNetwork f network) (m : Numbered f network sheet fragments)
    (parted : Pieces f network sheet entries k pieces) where
  abbrev F : HouseNetwork
  F = fragment_in f network sheet k

  boxes_pieces : F.boxes ≡ gathered (piece_in f network sheet k) (node_count network)
  unfolding fragment_in fragment_of read_network piece_in box_in node_offset
  boxes_pieces = gathered_rows (piece (read_network f network) (read_sheet f sheet) (only k)) (box_at f.route network) (node_width f) (node_part network) (node_count network)

  boxes_are : F.boxes ≡ gathered (box_kept f network sheet entries pieces) (node_count network)
  boxes_are = boxes_pieces ∙ gathered_ext _ _ (node_count network) (λ i l. sym (parted.row i l).is)

  boxes_count : length F.boxes ≡ count (keeps f network sheet k) (node_count network)
  unfolding keeps
  boxes_count = ap length boxes_pieces ∙ gathered_count (piece_in f network sheet k) (node_count network)

  -- an edge by its place, and the wire that it says
  reach : (j : ℕ) → j < edge_count network → only k (number (read_sheet f sheet) (wire_at network (edge_offset f network j)).to) ≡ reaches f network fragments k j
  unfolding wire_at edge_to
  reach j l = sym (reaches_is f network sheet fragments c m k j l)

  wires_are : F.wires ≡ gathered (wire_kept f network fragments k) (edge_count network)
  unfolding fragment_in fragment_of read_network edge_offset
  wires_are =
      filter_kept (λ (e : Wire). only k (number (read_sheet f sheet) e.to)) (rows (wire_at network) 5 (edge_part f network) (edge_count network))
      ∙ gathered_rows _ (wire_at network) 5 (edge_part f network) (edge_count network)
      ∙ gathered_ext _ _ (edge_count network) (λ j l. ap (λ (t : Bool). cond t (some (wire_at network (edge_offset f network j))) none) (reach j l))

  wires_count : length F.wires ≡ count (reaches f network fragments k) (edge_count network)
  wires_count =
      ap length wires_are ∙ gathered_count (wire_kept f network fragments k) (edge_count network)
      ∙ count_ext _ _ (edge_count network) (λ j l. there (reaches f network fragments k j) (wire_at network (edge_offset f network j)))
    where
      there : (t : Bool) (e : Wire) → holds (λ (e : Wire). true) (cond t (some e) none) ≡ t
      there true e = refl
      there false e = refl

  selected : Selected F network (box_kept f network sheet entries pieces) (node_count network) (wire_kept f network fragments k) (edge_count network)
  unfolding fragment_in fragment_of read_network
  selected = record { policies = refl; boxes = boxes_are; wires = wires_are }

  module _ (nodes edges : ℕ) (p : nodes ≡ count (keeps f network sheet k) (node_count network)) (q : edges ≡ count (reaches f network fragments k) (edge_count network)) where
    pub nodes_fit : Fits w16 nodes
    nodes_fit =
        let few = c.room.few in
        let most = c.room.usable.few in
        omega (arith, count_le (keeps f network sheet k) (node_count network))

    pub edges_fit : Fits w16 edges
    edges_fit = let few = c.sound.few_edges in omega (arith, count_le (reaches f network fragments k) (edge_count network))

    module _ (size : ℕ) (s : size ≡ size_of f (policy_count network) nodes edges) where
      pub fragment_parts_lem : FragmentParts f network sheet entries fragments pieces k size nodes edges
      unfolding node_bytes edge_bytes
      fragment_parts_lem =
          selected_parts f network c.room.usable c.bytes c.sound F (box_kept f network sheet entries pieces) (node_count network)
          (wire_kept f network fragments k) (edge_count network) selected size nodes edges (p ∙ sym boxes_count) (q ∙ sym wires_count) s

      pub fragment_long : size ≡ length (write_network f F)
      fragment_long = fragment_parts_lem.long

      pub fragment_kept : (out : List ℕ) → length out < size → out ≡ placed (write_network f F) out
      fragment_kept out h = record_kept _ size _ _ _ _ fragment_parts_lem out h

pub ruleset recording = (notes_of_own, nodes_fit, edges_fit, fragment_parts_lem, fragment_long, fragment_kept)

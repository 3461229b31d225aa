-- What is laid down of a fragment, by the types that its tables are held in.
--     node_of, nodes_of, edge_of, edges_of     what is kept of a node, of an edge, and of all of them
--     record_of, PartsOf                       the fragment's record, and what is laid down for it
use Rattle.std.specs.Prelude.{ℕ, List}
use Rattle.marking.specs.declared.Entered.{Entered}
use Rattle.marking.specs.declared.Fragment.{Fragment}
use Rattle.marking.specs.declared.Wires.{Wires}
use Rattle.reading.specs.Whole.{write_network}
use Rattle.laying.specs.Pieces.{node_bytes, nodes_in, edge_bytes, edges_in, fragment_in, FragmentParts}

module _ (e : Entered) (pieces : List ℕ) where
  abbrev pub node_of : ℕ → List ℕ
  node_of = node_bytes e.network.form e.network.bytes.now e.sheet.now e.entries.now pieces

  abbrev pub nodes_of : List ℕ
  nodes_of = nodes_in e.network.form e.network.bytes.now e.sheet.now e.entries.now pieces

module _ (w : Wires) where
  abbrev pub edge_of : ℕ → List ℕ
  edge_of = edge_bytes w.table.network.form w.table.network.bytes.now w.fragments.now w.k

  abbrev pub edges_of : List ℕ
  edges_of = edges_in w.table.network.form w.table.network.bytes.now w.fragments.now w.k

module _ (c : Fragment) where
  abbrev pub record_of : List ℕ
  record_of = write_network c.entered.network.form (fragment_in c.entered.network.form c.entered.network.bytes.now c.entered.sheet.now c.k)

  -- with these counts of nodes and edges
  abbrev pub PartsOf : List ℕ → ℕ → ℕ → ℕ → Type 0
  PartsOf pieces size nodes edges =
      FragmentParts c.entered.network.form c.entered.network.bytes.now c.entered.sheet.now c.entered.entries.now c.fragments.now pieces c.k size nodes edges

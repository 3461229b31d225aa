-- What the fragment keeps, as it is taken from the network's and the sheet's bytes by the tables.
--     node_bytes, edge_bytes        what is kept of a node, of an edge
--     nodes_in, edges_in            the nodes and the edges
--     fragment_in, FragmentParts   the fragment that they say, and its record
--     NotesOfOwn                    what the nodes' writer stands on
use Rattle.std.specs.Prelude.{ℕ, ◌<◌, true, cond, List, ◌≡◌, get_or}
use Rattle.std.proofs.Math.Option.{Option, none, some}
use Rattle.lists.specs.Gather.{joined, laid_option}
use Rattle.routes.specs.declared.Demand.{Demand}
use Rattle.routes.specs.declared.Route.{Route}
use Rattle.networks.specs.Cut.{fragment}
use Rattle.networks.specs.Network.{Box, Wire}
use Rattle.layout.specs.Layout.{node_count, edge_offset, edge_count, policy_count}
use Rattle.nodes.specs.Node.{is_own}
use Rattle.layout.specs.declared.Form.{Form}
use Rattle.reading.specs.Parts.{box_bytes, wire_at, wire_bytes}
use Rattle.reading.specs.Whole.{HouseNetwork, read_network, read_sheet, write_network}
use Rattle.marking.specs.Marks.{reaches}
use Rattle.marking.specs.Pieces.{piece_of, with_note, kept_by}
use Rattle.writing.specs.Heads.{head_bytes, policies_in}
use Rattle.writing.specs.Parts.{Parts}

-- what is kept of the node in row i, by the table
abbrev pub box_kept : Form → List ℕ → List ℕ → List ℕ → List ℕ → ℕ → Option (Box Route Demand)
box_kept f network sheet entries pieces i = piece_of f network sheet entries i (kept_by (get_or pieces i 0))

unfoldable pub node_bytes : Form → List ℕ → List ℕ → List ℕ → List ℕ → ℕ → List ℕ
node_bytes f network sheet entries pieces i = laid_option (box_bytes f.route) (box_kept f network sheet entries pieces i)

-- the j-th edge, where its to end has number k
abbrev pub wire_kept : Form → List ℕ → List ℕ → ℕ → ℕ → Option Wire
wire_kept f network fragments k j = cond (reaches f network fragments k j) (some (wire_at network (edge_offset f network j))) none

unfoldable pub edge_bytes : Form → List ℕ → List ℕ → ℕ → ℕ → List ℕ
edge_bytes f network fragments k j = laid_option wire_bytes (wire_kept f network fragments k j)

-- the nodes and the edges, one behind another
abbrev pub nodes_in : Form → List ℕ → List ℕ → List ℕ → List ℕ → List ℕ
nodes_in f network sheet entries pieces = joined (node_bytes f network sheet entries pieces) (node_count network)

abbrev pub edges_in : Form → List ℕ → List ℕ → ℕ → List ℕ
edges_in f network fragments k = joined (edge_bytes f network fragments k) (edge_count network)

-- the fragment of what the two records say
unfoldable pub fragment_in : Form → List ℕ → List ℕ → ℕ → HouseNetwork
fragment_in f network sheet k = fragment (read_network f network) (read_sheet f sheet) k

-- its record is what is laid down, with these counts of nodes and edges
abbrev pub FragmentParts : Form → List ℕ → List ℕ → List ℕ → List ℕ → List ℕ → ℕ → ℕ → ℕ → ℕ → Type 0
FragmentParts f network sheet entries fragments pieces k size nodes edges = Parts (write_network f (fragment_in f network sheet k)) size
    (head_bytes f.version size nodes edges (policy_count network)) (policies_in network) (nodes_in f network sheet entries pieces) (edges_in f network fragments k)

-- a note is kept of own boxes only
unfoldable pub NotesOfOwn : Form → List ℕ → List ℕ → Type 0
NotesOfOwn f network pieces = (i : ℕ) → i < node_count network → with_note (kept_by (get_or pieces i 0)) ≡ true → is_own f network i ≡ true

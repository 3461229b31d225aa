-- The tables of marks: the rows that edges leave.
--     crosses, reaches      an edge by the numbers of its ends
--     Leaving, Feeding      what the marks of all edges say of boxes and wires
use Rattle.std.specs.Prelude.{ℕ, ◌<◌, Bool, true, cond, not, List, ◌≡◌, eqb, get_or}
use Rattle.networks.specs.Cut.{leaves, feeds, only}
use Rattle.records.specs.Edge.{edge_to, edge_from}
use Rattle.layout.specs.Layout.{node_count}
use Rattle.nodes.specs.Node.{node_id, is_own, row_of}
use Rattle.layout.specs.declared.Form.{Form}
use Rattle.reading.specs.Whole.{read_network, read_sheet}

module _ (f : Form) (network fragments : List ℕ) where
  -- the number of the row that the j-th edge leads to
  unfoldable pub to_fragment : ℕ → ℕ
  to_fragment j = get_or fragments (row_of f network (edge_to f network j)) 0

  -- and of the row that it leaves
  unfoldable pub from_fragment : ℕ → ℕ
  from_fragment j = get_or fragments (row_of f network (edge_from f network j)) 0

  -- the j-th edge joins rows with different numbers
  unfoldable pub crosses : ℕ → Bool
  crosses j = not (eqb (to_fragment j) (from_fragment j))

  -- its to end has number k
  unfoldable pub reaches : ℕ → ℕ → Bool
  reaches k j = eqb (to_fragment j) k

module _ (f : Form) (network sheet : List ℕ) where
  -- An own row is marked where a cut wire leaves its box. Of an input's mark nothing is said: no cut wire leaves an input.
  unfoldable pub Leaving : List ℕ → Type 0
  Leaving marks = (i : ℕ) → i < node_count network → is_own f network i ≡ true
      → get_or marks i 0 ≡ cond (leaves (read_network f network) (read_sheet f sheet) (node_id f network i)) 1 0

  -- a row is marked where its box has a wire into fragment k
  unfoldable pub Feeding : ℕ → List ℕ → Type 0
  Feeding k marks = (i : ℕ) → i < node_count network
      → get_or marks i 0 ≡ cond (feeds (read_network f network) (read_sheet f sheet) (only k) (node_id f network i)) 1 0

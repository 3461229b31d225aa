-- A node's route as it stands in the network or in the list (document 01, 'Judging'), by the node's row and by its id.
use Rattle.std.specs.Prelude.{ℕ, ◌+◌, cond, List, [], take, drop}
use Rattle.records.specs.Edge.{boxed}
use Rattle.layout.specs.Layout.{entry_offset, node_offset}
use Rattle.entries.specs.Entries.{entry_of}
use Rattle.layout.specs.Form.{list_lead}
use Rattle.nodes.specs.Node.{node_id, row_of, is_own}
use Rattle.layout.specs.declared.Form.{Form}

-- the bytes of a record from an offset on, as many as a route of this width has
unfoldable pub route_part : ℕ → List ℕ → ℕ → List ℕ
route_part width b o = take width (drop o b)

module _ (f : Form) (network list : List ℕ) where
  -- the route of the node in a row: the list's for an own node, the assumed one for an input
  unfoldable pub row_part : ℕ → List ℕ
  row_part i =
      cond (is_own f network i)
      (route_part f.route list (entry_offset f list_lead (entry_of f list_lead list (node_id f network i)) + list_lead))
      (route_part f.route network (node_offset f network i + 3))

  -- the same by the node's id; empty where no node has it
  unfoldable pub named_part : ℕ → List ℕ
  named_part id = cond (boxed f network id) (row_part (row_of f network id)) []

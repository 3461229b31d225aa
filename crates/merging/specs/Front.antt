-- The id or key of a row, and behind the last row a number above all.
use Rattle.std.specs.Prelude.{ℕ, cond, List, ltb}
use Rattle.layout.specs.Layout.{node_count, edge_count}
use Rattle.layout.specs.declared.Form.{Form}
use Rattle.nodes.specs.Node.{node_id}
use Rattle.records.specs.Edge.{edge_key}

module _ (f : Form) (b : List ℕ) (p : ℕ) where
  unfoldable pub front_id : ℕ
  front_id = cond (ltb p (node_count b)) (node_id f b p) 65536

  unfoldable pub front_key : ℕ
  front_key = cond (ltb p (edge_count b)) (edge_key f b p) 4294967296

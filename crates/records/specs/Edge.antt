-- An edge's fields by their offset, when an edge is well formed, and when an input has an edge out (document 01, 'Records').
use Rattle.std.specs.Prelude.{ℕ, ◌+◌, ◌*◌, Bool, not, ◌&&◌, ◌||◌, List, eqb, leb, ltb, get_or}
use Rattle.lists.specs.First.{every}
use Rattle.lists.specs.Rising.{least}
use Rattle.numbers.specs.BigEndian.{u16_at}
use Rattle.layout.specs.Layout.{node_count, policy_count, edge_count, edge_offset}
use Rattle.nodes.specs.Node.{node_id, is_own, row_of}
use Rattle.layout.specs.declared.Form.{Form}

module _ (f : Form) (b : List ℕ) where
  unfoldable pub edge_to : ℕ → ℕ
  edge_to j = u16_at b (edge_offset f b j)

  unfoldable pub edge_from : ℕ → ℕ
  edge_from j = u16_at b (edge_offset f b j + 2)

  unfoldable pub edge_policy : ℕ → ℕ
  edge_policy j = get_or b (edge_offset f b j + 4) 0

  -- edges stand by their to end, and at one to end by their from end
  unfoldable pub edge_key : ℕ → ℕ
  edge_key j = edge_to j * 65536 + edge_from j

  -- a node has the id; an own node has it
  unfoldable pub boxed : ℕ → Bool
  boxed id = ltb (row_of f b id) (node_count b)

  unfoldable pub owned : ℕ → Bool
  owned id = boxed id && is_own f b (row_of f b id)

  -- both ends of an edge exist and differ, and the to end is own
  unfoldable pub ends_formed : ℕ → ℕ → Bool
  ends_formed to from = owned to && (boxed from && not (eqb to from))

  -- the ends of the edge at an offset are well formed, and its policy exists
  unfoldable pub edge_formed : ℕ → Bool
  edge_formed o = ends_formed (u16_at b o) (u16_at b (o + 2)) && ltb (get_or b (o + 4) 0) (policy_count b)

  -- the j-th edge is well formed, and above the one before
  unfoldable pub edge_ok : ℕ → Bool
  edge_ok j = leb (least edge_key j) (edge_key j) && edge_formed (edge_offset f b j)

  -- one of the first k edges leaves the node in row i
  unfoldable pub left_by : ℕ → ℕ → Bool
  left_by k i = not (every (λ j. not (eqb (edge_from j) (node_id f b i))) k)

  -- the i-th node is an own one, or an input with an edge out
  unfoldable pub input_ok : ℕ → Bool
  input_ok i = is_own f b i || left_by (edge_count b) i

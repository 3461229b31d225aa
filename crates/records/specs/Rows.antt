-- The tables by which a network is read in one pass: from ids to rows, and from rows to whether an edge leaves them.
use Rattle.std.specs.Prelude.{ℕ, ◌+◌, ◌<◌, ◌≡◌, Bool, true, false, cond, not, ◌&&◌, List, ltb, eqb, get_or, set, Result, Option, Some, None}
use Rattle.lists.specs.First.{every}
use Rattle.layout.specs.Layout.{Room, node_count}
use Rattle.nodes.specs.Node.{node_id, row_of}
use Rattle.records.specs.Edge.{edge_from, edge_key, boxed, edge_ok}
use Rattle.layout.specs.declared.Form.{Form}
use Rattle.layout.specs.declared.Refusal.{Refusal}
use Rattle.lists.specs.Answer.{Answer, given, refused}
use Rattle.layout.specs.Refusals.{check_answer}

-- none of 1 to 8 applies
abbrev pub past_nodes : Answer Form → Bool
past_nodes (given f) = true
past_nodes (refused number place) = ltb 8 number

-- what every edge is
abbrev pub any_edge : ℕ → Bool
any_edge j = true

module _ (f : Form) (b : List ℕ) where
  -- what the first table holds at an id: one more than the row of the node with that id, or 0 where no node has it
  unfoldable pub row_mark : ℕ → ℕ
  row_mark id = cond (boxed f b id) (row_of f b id + 1) 0

  -- the table is filled
  unfoldable pub Filled : List ℕ → Type 0
  Filled rows = (id : ℕ) → id < 65536 → get_or rows id 0 ≡ row_mark id

  -- the record may be read by the table
  pub record Tabled (rows : List ℕ) : Type 0 where
    pub room : Room f b
    pub filled : Filled rows

  -- the table with the row that the j-th edge leaves marked, where the edge has a property
  unfoldable pub marked_by : (ℕ → Bool) → ℕ → List ℕ → List ℕ
  marked_by property j marks = cond (property j) (set marks (row_of f b (edge_from f b j)) 1) marks

  -- The table holds 1 at the rows that one of the first m edges with a property leaves, and 0 at the others.
  unfoldable pub Marked : (ℕ → Bool) → ℕ → List ℕ → Type 0
  Marked property m marks = (i : ℕ) → i < node_count b
      → get_or marks i 0 ≡ cond (not (every (λ j. not (property j && eqb (edge_from f b j) (node_id f b i))) m)) 1 0

  -- the j-th edge read: what the next key may be at least, if the edge is in order
  unfoldable pub key_after : ℕ → Option ℕ
  key_after j = cond (edge_ok f b j) (Some (edge_key f b j + 1)) None

  abbrev pub FilledOrKept : Bool → List ℕ → List ℕ → Type 0
  FilledOrKept true before after = Filled after
  FilledOrKept false before after = after ≡ before

  -- the first table after a check, from what it held before: it is filled where none of 1 to 8 applies
  abbrev pub RowsAfter : Result Form Refusal → List ℕ → List ℕ → Type 0
  RowsAfter c = FilledOrKept (past_nodes (check_answer c))

-- Where the parts of a record stand (document 01, 'Records'): in a network after ten bytes the policies, the nodes, the edges; in a sheet
-- or a list after seven bytes the entries.
use Rattle.std.specs.Prelude.{ℕ, ◌≤◌, List, length, get_or}
use Rattle.lists.specs.Stride.{at}
use Rattle.numbers.specs.BigEndian.{u16_at}
use Rattle.layout.specs.Form.{Usable, node_width, entry_width}
use Rattle.layout.specs.declared.Form.{Form}

-- Where the counts of a head stand, behind the length of four bytes and the version: nodes, edges, policies.
abbrev pub nodes_field : ℕ
nodes_field = 5

abbrev pub edges_field : ℕ
edges_field = 7

abbrev pub policies_field : ℕ
policies_field = 9

-- behind them the parts begin
abbrev pub head_width : ℕ
head_width = 10

module _ (b : List ℕ) where
  abbrev pub node_count : ℕ
  node_count = u16_at b nodes_field

  abbrev pub edge_count : ℕ
  edge_count = u16_at b edges_field

  abbrev pub policy_count : ℕ
  policy_count = get_or b policies_field 0

  abbrev pub entry_count : ℕ
  entry_count = u16_at b 5

-- the offset of the i-th policy; behind the last one the nodes begin
unfoldable pub policy_offset : ℕ → ℕ
policy_offset i = at 10 13 i

abbrev pub node_part : List ℕ → ℕ
node_part b = policy_offset (policy_count b)

module _ (f : Form) (b : List ℕ) where
  -- the offset of the i-th node; behind the last one the edges begin
  unfoldable pub node_offset : ℕ → ℕ
  node_offset i = at (node_part b) (node_width f) i

  abbrev pub edge_part : ℕ
  edge_part = node_offset (node_count b)

  -- the offset of the i-th edge; behind the last one the record ends
  unfoldable pub edge_offset : ℕ → ℕ
  edge_offset i = at edge_part 5 i

  abbrev pub total : ℕ
  total = edge_offset (edge_count b)

  -- the record is at least as long as its counts say, and its nodes are within their bound
  pub record Room : Type 0 where
    pub usable : Usable f
    pub long : 10 ≤ length b
    pub few : node_count b ≤ f.most
    pub whole : total ≤ length b

module _ (f : Form) (lead : ℕ) where
  -- the offset of the i-th entry; behind the last one the record ends
  unfoldable pub entry_offset : ℕ → ℕ
  entry_offset i = at 7 (entry_width f lead) i

  -- the record is at least as long as its count says
  pub record EntriesRoom (b : List ℕ) : Type 0 where
    pub usable : Usable f
    pub led : (2 ≤ lead) × (lead ≤ 3)
    pub long : 7 ≤ length b
    pub whole : entry_offset (entry_count b) ≤ length b

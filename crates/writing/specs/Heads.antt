-- What stands before the nodes of a network record: the head and the policies; and the record's length by its counts.
use Rattle.std.specs.Prelude.{ℕ, ◌-◌, List, [], ◌∷◌, ◌++◌, take, drop}
use Rattle.lists.specs.Stride.{at}
use Rattle.numbers.specs.BigEndian.{u16_bytes, u32_bytes}
use Rattle.layout.specs.Form.{node_width}
use Rattle.layout.specs.Layout.{head_width, policy_offset, node_part}
use Rattle.layout.specs.declared.Form.{Form}

-- the counts of nodes, edges and policies
unfoldable pub count_bytes : ℕ → ℕ → ℕ → List ℕ
count_bytes nodes edges policies = u16_bytes nodes ++ (u16_bytes edges ++ (policies ∷ []))

-- the length of what is behind the first four bytes, the version, the counts
unfoldable pub head_bytes : ℕ → ℕ → ℕ → ℕ → ℕ → List ℕ
head_bytes version size nodes edges policies = u32_bytes (size - 4) ++ ((version ∷ []) ++ count_bytes nodes edges policies)

-- the policies of a record, as they stand
unfoldable pub policies_in : List ℕ → List ℕ
policies_in b = take (node_part b - head_width) (drop head_width b)

-- the length of a record by its counts of policies, nodes and edges
unfoldable pub size_of : Form → ℕ → ℕ → ℕ → ℕ
size_of f policies nodes edges = at (at (policy_offset policies) (node_width f) nodes) 5 edges

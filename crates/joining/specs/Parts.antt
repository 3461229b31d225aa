-- The record of the joint network as it is laid down, with its counts.
use Rattle.std.specs.Prelude.{ℕ, ◌+◌, List, ◌≡◌, length}
use Rattle.layout.specs.Layout.{policy_count, edge_count}
use Rattle.layout.specs.declared.Form.{Form}
use Rattle.merging.specs.Merged.{joined_in, nodes_merged, edges_merged}
use Rattle.merging.specs.Runs.{KeysApart}
use Rattle.reading.specs.Whole.{write_network}
use Rattle.writing.specs.Heads.{head_bytes, policies_in}
use Rattle.writing.specs.Parts.{Parts}

module _ (f : Form) (first second : List ℕ) where
  -- the counts of its nodes and edges, no two of which have one key
  pub record Counted (nodes edges : ℕ) : Type 0 where
    pub boxes : nodes ≡ length (joined_in f first second).boxes
    pub wires : edges ≡ length (joined_in f first second).wires
    pub all : edges ≡ edge_count first + edge_count second
    pub apart : KeysApart f first second

  abbrev pub JoinParts : ℕ → ℕ → ℕ → Type 0
  JoinParts size nodes edges = Parts (write_network f (joined_in f first second)) size
      (head_bytes f.version size nodes edges (policy_count first)) (policies_in first) (nodes_merged f first second) (edges_merged f first second)

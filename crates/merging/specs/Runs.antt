-- Runs of edges, which the merge looks through and copies as they stand.
--     run_below      how many edges from a row on have a key below a limit
--     run_bytes      edges from a row on, as bytes
--     gone_first, gone_second, turn_bytes     how many edges of each network go by in a turn, and what is laid
--     KeysApart     no edge of one network has the key of one of the other
use Rattle.std.specs.Prelude.{ℕ, ◌+◌, ◌-◌, ◌<◌, Bool, List, ◌++◌, ◌≡◌, ltb}
use Rattle.lists.specs.First.{first_bad}
use Rattle.lists.specs.Rows.{rows, laid_rows}
use Rattle.layout.specs.Layout.{edge_count, edge_offset}
use Rattle.layout.specs.declared.Form.{Form}
use Rattle.reading.specs.Parts.{wire_at, wire_bytes}
use Rattle.records.specs.Edge.{edge_key}
use Rattle.merging.specs.Front.{front_key}

module _ (f : Form) (b : List ℕ) (p : ℕ) where
  abbrev pub key_below : ℕ → ℕ → Bool
  key_below limit k = ltb (edge_key f b (p + k)) limit

  unfoldable pub run_below : ℕ → ℕ
  run_below limit = first_bad (key_below limit) (edge_count b - p)

  abbrev pub run_bytes : ℕ → List ℕ
  run_bytes k = laid_rows wire_bytes (rows (wire_at b) 5 (edge_offset f b p) k)

-- one turn of the merge, from rows p and q on: the edges of the first network below the second's front, and then the other way round
module _ (f : Form) (first second : List ℕ) (p q : ℕ) where
  unfoldable pub gone_first : ℕ
  gone_first = run_below f first p (front_key f second q)

  unfoldable pub gone_second : ℕ
  gone_second = run_below f second q (front_key f first (p + gone_first))

  abbrev pub turn_bytes : List ℕ
  turn_bytes = run_bytes f first p gone_first ++ run_bytes f second q gone_second

unfoldable pub KeysApart : Form → List ℕ → List ℕ → Type 0
KeysApart f first second = (p q : ℕ) → p < edge_count first → q < edge_count second → edge_key f first p ≡ edge_key f second q → ⊥

-- The census of a pass as it is put, row by row.
use Rattle.std.specs.Prelude.{cond, List, [], ◌++◌, ℕ}
use Rattle.lists.specs.Gather.{joined}
use Rattle.layout.specs.Layout.{node_count}
use Rattle.layout.specs.declared.Form.{Form}
use Rattle.nodes.specs.Node.{node_id}
use Rattle.lines.specs.Line.{pass_line}
use Rattle.counting.specs.Counted.{counted_at}
use Rattle.counting.specs.Lines.{silent_line, count_lines}
use Rattle.counting.specs.declared.Counted.TheVariants.{Silent}
use Rattle.counting.specs.declared.Tally.{Tally}

-- the line of the box in row i, where it is one that the census names
unfoldable pub silent_row : Form → List ℕ → List ℕ → ℕ → List ℕ
silent_row f network list i = cond (counted_at f network list Silent i) (silent_line (node_id f network i)) []

-- the judge's line, the counts, and these lines
unfoldable pub pass_rows : Form → List ℕ → List ℕ → Tally → List ℕ
pass_rows f network list t = pass_line t.boxes ++ (count_lines t ++ joined (silent_row f network list) (node_count network))

-- The lines of a census, behind the judge's.
--     share_line, silent_line     `WORD PART of WHOLE`; `silent ID`
--     count_lines, Tally         the four lines of counts, and the counts that they say
--     census_lines               all of them
use Rattle.std.specs.Prelude.{List, [], ◌∷◌, ◌++◌, ℕ}
use Rattle.lists.specs.Rows.{laid_rows}
use Rattle.numbers.specs.Decimal.{decimal}
use Rattle.networks.specs.Silence.{Census}
use Rattle.layout.specs.declared.Form.{Form}
use Rattle.lines.specs.Line.{text, line}
use Rattle.counting.specs.Counted.{counted_in}
use Rattle.counting.specs.declared.Counted.TheVariants.{Holding, Inputs, Assumed, Promises, Promised, Asked}
use Rattle.counting.specs.declared.Tally.{Tally}

unfoldable pub share_line : List ℕ → ℕ → ℕ → List ℕ
share_line word part whole = line word (decimal part ∷ text "of" ∷ decimal whole ∷ [])

unfoldable pub silent_line : ℕ → List ℕ
silent_line id = line (text "silent") (decimal id ∷ [])

-- the counts, of a network with this many own boxes
unfoldable pub tally_of : Form → List ℕ → List ℕ → ℕ → Tally
tally_of f network list boxes = record {
  boxes = boxes;
  holding = counted_in f network list Holding;
  inputs = counted_in f network list Inputs;
  assumed = counted_in f network list Assumed;
  promises = counted_in f network list Promises;
  promised = counted_in f network list Promised;
  asked = counted_in f network list Asked;
}

-- `holding`, `assumed`, `promised`, `asked`
unfoldable pub count_lines : Tally → List ℕ
count_lines t =
    share_line (text "holding") t.holding t.boxes
    ++ (share_line (text "assumed") t.assumed t.inputs
    ++ (share_line (text "promised") t.promised t.promises
    ++ line (text "asked") (decimal t.asked ∷ [])))

unfoldable pub census_lines : Census → List ℕ
census_lines c =
    count_lines (record { boxes = c.boxes; holding = c.holding; inputs = c.inputs; assumed = c.assumed; promises = c.promises; promised = c.promised; asked = c.asked })
    ++ laid_rows silent_line c.silent

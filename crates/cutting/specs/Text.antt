-- What the cutting program writes of what it reads (document 01, 'The two programs').
use Rattle.std.specs.Prelude.{ℕ, ◌+◌, List, get_or, drop}
use Rattle.layout.specs.Form.{widest, form_of, sheet_lead}
use Rattle.reading.specs.Largest.{largest_network, largest_entries}
use Rattle.lines.specs.Split.{first_record, rest_of}
use Rattle.lines.specs.Bound.{within_bound}
use Rattle.outcomes.specs.Text.{record_output}
use Rattle.cutting.specs.Cutting.{cut_network}

-- the fragment asked: the first byte of the rest, or 0
abbrev pub asked_of : List ℕ → ℕ
asked_of rest = get_or rest 0 0

-- the sheet: what is behind that byte
abbrev pub behind_asked : List ℕ → List ℕ
behind_asked rest = drop 1 rest

-- the longest input: the largest network, the byte and the largest sheet
unfoldable pub cut_bound : ℕ
cut_bound = largest_network widest + 1 + largest_entries widest sheet_lead

-- The first record is the network, and the rest is the fragment asked and the sheet.
unfoldable pub cut_text : List ℕ → List ℕ
cut_text input = within_bound cut_bound input
    (record_output (form_of (first_record input)) (cut_network (first_record input) (behind_asked (rest_of input)) (asked_of (rest_of input))))

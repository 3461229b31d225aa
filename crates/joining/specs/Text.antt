-- What the joining program writes of what it reads (document 02, K3).
use Rattle.std.specs.Prelude.{ℕ, ◌+◌, List}
use Rattle.layout.specs.Form.{widest, form_of}
use Rattle.lines.specs.Bound.{within_bound}
use Rattle.lines.specs.Split.{first_record, rest_of}
use Rattle.outcomes.specs.Text.{record_output}
use Rattle.reading.specs.Largest.{largest_network}
use Rattle.joining.specs.Joining.{join_networks}

-- the longest input: two of the largest networks
unfoldable pub join_bound : ℕ
join_bound = largest_network widest + largest_network widest

-- The first record is the first network, and the rest is the second.
unfoldable pub join_text : List ℕ → List ℕ
join_text input = within_bound join_bound input (record_output (form_of (first_record input)) (join_networks (first_record input) (rest_of input)))

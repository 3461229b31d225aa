-- The constant is the definition's number, worked out.
use Rattle.layout.specs.Form.{node_width, entry_width}
use Rattle.reading.specs.Largest.{largest_network, largest_entries}
use Rattle.cutting.specs.Text.{cut_bound}
use borrow.Author.Rules.{rules}
use Rattle.cutting.proofs.text.longest_input.Goals as goal

pub returns : goal.returns
unfolding cut_bound largest_network largest_entries node_width entry_width
returns c = search rules

-- The constant is the definition's number, worked out.
use Rattle.layout.specs.Form.{node_width, entry_width}
use Rattle.reading.specs.Largest.{largest_network, largest_entries}
use Rattle.judging.specs.Text.{judge_bound}
use borrow.Author.Rules.{rules}
use Rattle.judging.proofs.text.longest_input.Goals as goal

pub returns : goal.returns
unfolding judge_bound largest_network largest_entries node_width entry_width
returns c = search rules

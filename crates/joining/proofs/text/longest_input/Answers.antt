-- The constant is the definition's number, worked out.
use Rattle.layout.specs.Form.{node_width}
use Rattle.reading.specs.Largest.{largest_network}
use Rattle.joining.specs.Text.{join_bound}
use borrow.Author.Rules.{rules}
use Rattle.joining.proofs.text.longest_input.Goals as goal

pub returns : goal.returns
unfolding join_bound largest_network node_width
returns c = search rules

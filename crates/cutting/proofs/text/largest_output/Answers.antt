-- The constant is the definition's number, worked out.
use Rattle.layout.specs.Form.{node_width}
use Rattle.reading.specs.Largest.{largest_network}
use borrow.Author.Rules.{rules}
use Rattle.cutting.proofs.text.largest_output.Goals as goal

pub returns : goal.returns
unfolding largest_network node_width
returns c = search rules

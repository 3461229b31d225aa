-- The room is longer than the bound, worked out.
use Rattle.layout.specs.Form.{node_width}
use Rattle.reading.specs.Largest.{largest_network}
use Rattle.joining.specs.Text.{join_bound}
use borrow.Author.Rules.{rules}
use Rattle.join.proofs.main.Goals as goal

pub run-requires : goal.run-requires
unfolding join_bound largest_network node_width
run-requires c = search rules

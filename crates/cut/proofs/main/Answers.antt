-- The room is longer than the bound, worked out.
use Rattle.layout.specs.Form.{node_width, entry_width}
use Rattle.reading.specs.Largest.{largest_network, largest_entries}
use Rattle.cutting.specs.Text.{cut_bound}
use borrow.Author.Rules.{rules}
use Rattle.cut.proofs.main.Goals as goal

pub run-requires : goal.run-requires
unfolding cut_bound largest_network largest_entries node_width entry_width
run-requires c = search rules

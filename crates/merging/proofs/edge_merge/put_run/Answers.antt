-- A run is copied as it stands, and its bytes are those of its wires (run_putting).
use Rattle.merging.proofs.EdgeLaws.{run_putting, run_few}
use borrow.Author.Rules.{rules}
use Rattle.merging.proofs.edge_merge.put_run.Goals as goal

pub put_part-requires : goal.put_part-requires
put_part-requires c = search (rules, run_putting, run_few)

pub returns-clause-size : goal.returns-clause-size
returns-clause-size c = search (rules, run_putting, run_few)

pub returns-clause-laid : goal.returns-clause-laid
returns-clause-laid c = search (rules, run_putting, run_few)

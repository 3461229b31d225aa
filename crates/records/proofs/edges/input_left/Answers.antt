-- The node is no input, or its mark tells whether an edge leaves it.
use Rattle.records.proofs.LeftLaws.{leaving}
use Rattle.records.proofs.edges.input_left.Goals as goal

pub returns-then-is_own : goal.returns-then-is_own
returns-then-is_own c = search leaving

pub returns-else-is_own : goal.returns-else-is_own
returns-else-is_own c = search leaving

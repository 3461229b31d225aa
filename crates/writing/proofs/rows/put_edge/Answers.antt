-- The five bytes of a wire are those that stand at the offset.
use Rattle.writing.proofs.RowLaws.{edges}
use Rattle.writing.proofs.rows.put_edge.Goals as goal

pub returns : goal.returns
returns c = record { size = search edges; laid = search edges }

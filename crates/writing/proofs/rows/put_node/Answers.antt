-- The bytes of the box that is read are those that stand at the offset.
use Rattle.writing.proofs.RowLaws.{nodes}
use Rattle.writing.proofs.rows.put_node.Goals as goal

pub returns : goal.returns
returns c = record { size = search nodes; laid = search nodes }

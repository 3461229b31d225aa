-- Four runs, each stored where the one before ends, are the node (input_laid).
use Rattle.writing.proofs.RowLaws.{inputs}
use Rattle.writing.proofs.rows.put_input.Goals as goal

pub returns : goal.returns
returns c = record { size = search inputs; laid = search inputs }

-- Four runs, each stored where the one before ends, are the node (promised_laid).
use Rattle.writing.proofs.RowLaws.{promises}
use Rattle.writing.proofs.rows.put_promised.Goals as goal

pub returns : goal.returns
returns c = record { size = search promises; laid = search promises }

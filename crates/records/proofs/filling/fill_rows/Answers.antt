use Rattle.records.proofs.FillLaws.{filling}
use Rattle.records.proofs.filling.fill_rows.Goals as goal

pub loop-i-init : goal.loop-i-init
loop-i-init c = search filling

pub loop-i-preserved : goal.loop-i-preserved
loop-i-preserved c = search filling

pub returns : goal.returns
returns c = search filling

-- Three stores, one behind another, are the five bytes.
use Rattle.writing.proofs.HeadLaws.{counts_stored}
use Rattle.writing.proofs.heads.put_counts.Goals as goal

pub returns : goal.returns
returns c = search counts_stored

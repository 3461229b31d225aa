-- The length, the version and the counts, one behind another, are the head.
use Rattle.writing.proofs.HeadLaws.{head_stored}
use Rattle.writing.proofs.heads.put_head.Goals as goal

pub returns : goal.returns
returns c = search head_stored

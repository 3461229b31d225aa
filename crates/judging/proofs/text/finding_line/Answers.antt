-- The node is widened, and stays the same number (finding_line_lem).
use Rattle.judging.proofs.TextLaws.{finding_line_lem}
use Rattle.judging.proofs.text.finding_line.Goals as goal

pub returns : goal.returns
returns c = search finding_line_lem

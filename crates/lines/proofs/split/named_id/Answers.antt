-- No byte is 0 (named_none), one is the high one (named_one), and else the first two are the id.
use Rattle.lines.proofs.Laws.{naming}
use Rattle.lines.proofs.split.named_id.Goals as goal

pub returns-in-0 : goal.returns-in-0
returns-in-0 c = search naming

pub returns-in-1 : goal.returns-in-1
returns-in-1 c = search naming

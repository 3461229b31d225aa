-- One law for each arm of the match on the flag's byte.
use Rattle.nodes.proofs.NodeLaws.{promised}
use Rattle.nodes.proofs.nodes.promising_at.Goals as goal

pub returns-in-0 : goal.returns-in-0
returns-in-0 c = search promised

pub returns-in_default : goal.returns-in_default
returns-in_default c = search promised

-- One law for each arm of the match on the kind's byte.
use Rattle.nodes.proofs.NodeLaws.{kinds}
use Rattle.nodes.proofs.nodes.kind_formed.Goals as goal

pub returns-in-0 : goal.returns-in-0
returns-in-0 c = search kinds

pub returns-in-0-b : goal.returns-in-0-b
returns-in-0-b c = search kinds

pub returns-in_default-b : goal.returns-in_default-b
returns-in_default-b c = search kinds

pub returns-in_default : goal.returns-in_default
returns-in_default c = search kinds

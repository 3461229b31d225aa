-- One law for each arm of the match on the demand's byte.
use Rattle.nodes.proofs.NodeLaws.{asked}
use Rattle.nodes.proofs.nodes.demand_at.Goals as goal

pub returns-in-0 : goal.returns-in-0
returns-in-0 c = search asked

pub returns-in-1 : goal.returns-in-1
returns-in-1 c = search asked

pub returns-in_default : goal.returns-in_default
returns-in_default c = search asked

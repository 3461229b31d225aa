-- One law for each arm of the match on the demand's byte.
use Rattle.nodes.proofs.NodeLaws.{demands}
use Rattle.nodes.proofs.nodes.demand_formed.Goals as goal

pub returns-in-1 : goal.returns-in-1
returns-in-1 c = search demands

pub returns-in-0 : goal.returns-in-0
returns-in-0 c = search demands

pub returns-in_default : goal.returns-in_default
returns-in_default c = search demands

-- One law for each arm of the match on the flag's byte.
use Rattle.nodes.proofs.NodeLaws.{promises}
use Rattle.nodes.proofs.nodes.promise_formed.Goals as goal

pub returns-in-0 : goal.returns-in-0
returns-in-0 c = search promises

pub returns-in-1 : goal.returns-in-1
returns-in-1 c = search promises

pub returns-in_default : goal.returns-in_default
returns-in_default c = search promises

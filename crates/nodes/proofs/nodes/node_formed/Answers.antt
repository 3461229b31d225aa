-- One law for each test that a node can fail, and one for none.
use Rattle.nodes.proofs.NodeLaws.{node_forms}
use Rattle.nodes.proofs.nodes.node_formed.Goals as goal

pub returns-then-not-kind_formed : goal.returns-then-not-kind_formed
returns-then-not-kind_formed c = search node_forms

pub returns-then-not-route_formed : goal.returns-then-not-route_formed
returns-then-not-route_formed c = search node_forms

pub returns-then-not-promise_formed : goal.returns-then-not-promise_formed
returns-then-not-promise_formed c = search node_forms

pub returns : goal.returns
returns c = search node_forms

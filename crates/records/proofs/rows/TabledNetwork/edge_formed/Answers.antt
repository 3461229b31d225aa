-- The ends, and behind them the policy.
use Rattle.records.proofs.EdgeLaws.{edge_forms}
use Rattle.records.proofs.rows.TabledNetwork.edge_formed.Goals as goal

pub returns-then-ends_formed : goal.returns-then-ends_formed
returns-then-ends_formed c = search edge_forms

pub returns-else-ends_formed : goal.returns-else-ends_formed
returns-else-ends_formed c = search edge_forms

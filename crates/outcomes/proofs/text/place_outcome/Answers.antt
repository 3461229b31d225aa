-- One law for each outcome: the record, 20 with its length, another refusal (outcome_lines).
use Rattle.outcomes.proofs.TextLaws.{outcome_lines}
use Rattle.outcomes.proofs.text.place_outcome.Goals as goal

pub returns-in-Ok : goal.returns-in-Ok
returns-in-Ok c = record { count = search outcome_lines; text = search outcome_lines }

pub returns-in-20 : goal.returns-in-20
returns-in-20 c = record { count = search outcome_lines; text = search outcome_lines }

pub returns-in_default : goal.returns-in_default
returns-in_default c = record { count = search outcome_lines; text = search outcome_lines }

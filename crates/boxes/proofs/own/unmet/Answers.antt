-- The demand is met, or it is the finding.
use Rattle.boxes.proofs.BoxLaws.{demands}
use Rattle.boxes.proofs.own.unmet.Goals as goal

pub returns-then-is_met : goal.returns-then-is_met
returns-then-is_met c = search demands

pub returns : goal.returns
returns c = search demands

-- One law for each arm of the match on the version byte.
use Rattle.layout.proofs.CodeLaws.{forming}
use Rattle.layout.proofs.forms.form_of.Goals as goal

pub returns-in-1 : goal.returns-in-1
returns-in-1 c = search forming

pub returns-in_default : goal.returns-in_default
returns-in_default c = search forming

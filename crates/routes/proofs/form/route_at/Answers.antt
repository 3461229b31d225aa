-- One law for each arm of the match on the present byte.
use Rattle.routes.proofs.FormLaws.{reading}
use borrow.Author.Rules.{rules}
use Rattle.routes.proofs.form.route_at.Goals as goal

pub returns-in-0 : goal.returns-in-0
returns-in-0 c = search (rules, reading)

pub returns-in_default : goal.returns-in_default
returns-in_default c = search (rules, reading)

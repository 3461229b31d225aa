-- One law for each arm of the match on the present byte.
use Rattle.routes.proofs.FormLaws.{forming}
use borrow.Author.Rules.{rules}
use Rattle.routes.proofs.form.route_formed.Goals as goal

pub returns-in-0 : goal.returns-in-0
returns-in-0 c = search (rules, forming)

pub returns-in-1 : goal.returns-in-1
returns-in-1 c = search (rules, forming)

pub returns-in_default : goal.returns-in_default
returns-in_default c = search (rules, forming)

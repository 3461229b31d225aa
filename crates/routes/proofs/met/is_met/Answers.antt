-- One law for each case of the demand and the route.
use Rattle.routes.proofs.MetLaws.{met}
use borrow.Author.Rules.{rules}
use Rattle.routes.proofs.met.is_met.Goals as goal

pub returns-in-Nothing : goal.returns-in-Nothing
returns-in-Nothing c = search (rules, met)

pub returns-in-None : goal.returns-in-None
returns-in-None c = search (rules, met)

pub returns-then-f-ceiling : goal.returns-then-f-ceiling
returns-then-f-ceiling c = search (rules, met)

pub returns-else-f-ceiling : goal.returns-else-f-ceiling
returns-else-f-ceiling c = search (rules, met)

pub returns-in-None-matches : goal.returns-in-None-matches
returns-in-None-matches c = search (rules, met)

pub returns-in_default : goal.returns-in_default
returns-in_default c = search (rules, met)

-- An ill-formed preference decides; behind a well-formed one the cost added does.
use Rattle.routes.proofs.FormLaws.{policies}
use borrow.Author.Rules.{rules}
use Rattle.routes.proofs.form.policy_formed.Goals as goal

pub returns-then-preference_formed : goal.returns-then-preference_formed
returns-then-preference_formed c = search (rules, policies)

pub returns-else-preference_formed : goal.returns-else-preference_formed
returns-else-preference_formed c = search (rules, policies)

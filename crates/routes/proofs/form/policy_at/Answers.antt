-- Each field is the number at its offset (policy_read).
use Rattle.routes.proofs.FormLaws.{policy_read}
use borrow.Author.Rules.{rules}
use Rattle.routes.proofs.form.policy_at.Goals as goal

pub returns : goal.returns
returns c = search (rules, policy_read)

-- Each field is the number at its offset (fields_read).
use Rattle.routes.proofs.FormLaws.{fields_read}
use borrow.Author.Rules.{rules}
use Rattle.routes.proofs.form.fields_at.Goals as goal

pub returns : goal.returns
returns c = search (rules, fields_read)

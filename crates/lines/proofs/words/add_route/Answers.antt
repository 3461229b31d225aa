-- `none`, or four numbers (wording).
use Rattle.lines.proofs.Laws.{wording}
use borrow.Author.Rules.{rules}
use Rattle.lines.proofs.words.add_route.Goals as goal

pub returns-in_default : goal.returns-in_default
returns-in_default c = (search wording, search rules)

pub returns : goal.returns
returns c = (search wording, search rules)

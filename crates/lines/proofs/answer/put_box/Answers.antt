-- The id's digits, the route's words and the line feed, one behind another, are the line (box_put).
use Rattle.lines.proofs.Laws.{wording}
use borrow.Author.Rules.{rules}
use Rattle.lines.proofs.answer.put_box.Goals as goal

pub returns : goal.returns
returns c = (search wording, search rules)

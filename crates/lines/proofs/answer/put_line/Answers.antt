-- By the line's kind, its words one behind another (wording).
use Rattle.lines.proofs.Laws.{wording}
use Rattle.lines.proofs.answer.put_line.Goals as goal

pub returns-in-Pass : goal.returns-in-Pass
returns-in-Pass c = search wording

pub returns-in-Refused : goal.returns-in-Refused
returns-in-Refused c = search wording

pub returns-in-Found : goal.returns-in-Found
returns-in-Found c = search wording

-- One law for the line of each verdict (verdict_lines).
use Rattle.judging.proofs.TextLaws.{verdict_lines}
use Rattle.judging.proofs.text.verdict_line.Goals as goal

pub returns-in-Pass : goal.returns-in-Pass
returns-in-Pass c = search verdict_lines

pub returns-in-NotDue : goal.returns-in-NotDue
returns-in-NotDue c = search verdict_lines

pub returns-in-PromiseBroken : goal.returns-in-PromiseBroken
returns-in-PromiseBroken c = search verdict_lines

pub returns-in-DemandUnmet : goal.returns-in-DemandUnmet
returns-in-DemandUnmet c = search verdict_lines

pub returns-in-Refused : goal.returns-in-Refused
returns-in-Refused c = search verdict_lines

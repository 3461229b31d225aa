-- The line fits in its room (line_fits), and is what is read back from there (line_read).
use Rattle.judging.proofs.TextLaws.{line_fits, line_read}
use borrow.Author.Rules.{rules}
use Rattle.judge.proofs.JudgeProgram.answer.Goals as goal

pub returns : goal.returns
returns c = record { fits = search (rules, line_fits); text = search (rules, line_read) }

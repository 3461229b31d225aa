-- What is written answers the whole input (answered), of which what is over the bound does not show, as the program's law says.
use Rattle.streams.proofs.Answers.{answered}
use borrow.Author.Rules.{rules}
use Rattle.streams.proofs.run.Goals as goal

pub write_answer-requires : goal.write_answer-requires
write_answer-requires g c = search (rules, answered g.P.Program.bound g.P.Program.text g.met.P.Program.bounded)

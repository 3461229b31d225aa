-- The digits stand at the start of the conversion's room, 20 at most (numbering).
use Rattle.lines.proofs.Laws.{numbering}
use borrow.Author.Rules.{rules}
use Rattle.lines.proofs.words.put_number.Goals as goal

pub returns : goal.returns
returns c = (search numbering, search (rules, numbering))

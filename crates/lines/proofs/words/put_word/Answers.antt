use Rattle.lines.proofs.Laws.{putting}
use borrow.Author.Rules.{rules}
use Rattle.lines.proofs.words.put_word.Goals as goal

pub loop-i-preserved : goal.loop-i-preserved
loop-i-preserved c = search (rules, putting)

pub returns : goal.returns
returns c = (search (rules, putting), search rules)

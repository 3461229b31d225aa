-- The bytes that the kit makes of the number are the definition's (u16_written).
use borrow.Author.Rules.{rules}
use Rattle.numbers.proofs.Laws.{u16_written}
use Rattle.numbers.proofs.put_u16.Goals as goal

pub returns : goal.returns
returns c = search (rules, u16_written)

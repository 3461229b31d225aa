-- The bytes that the kit makes of the number are the definition's (u32_written).
use borrow.Author.Rules.{rules}
use Rattle.numbers.proofs.Laws.{u32_written}
use Rattle.numbers.proofs.put_u32.Goals as goal

pub returns : goal.returns
returns c = search (rules, u32_written)

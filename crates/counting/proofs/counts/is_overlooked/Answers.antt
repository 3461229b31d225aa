-- A box that holds a route is not overlooked; one that holds none is, unless its demand asks for that.
use Rattle.counting.proofs.CountLaws.{overlooking}
use borrow.Author.Rules.{rules}
use Rattle.counting.proofs.counts.is_overlooked.Goals as goal

pub returns-else-not-carries : goal.returns-else-not-carries
returns-else-not-carries c = search (rules, overlooking)

pub asks_none-requires : goal.asks_none-requires
asks_none-requires c = search (rules, overlooking)

pub returns-then-not-carries : goal.returns-then-not-carries
returns-then-not-carries c = search (rules, overlooking)

-- The node in a row is an own box or an input.
use Rattle.counting.proofs.CountLaws.{rowing}
use borrow.Author.Rules.{rules}
use Rattle.counting.proofs.counts.is_counted.Goals as goal

pub own_counted-requires : goal.own_counted-requires
own_counted-requires c = (search rules, search rowing)

pub returns-then-is_own : goal.returns-then-is_own
returns-then-is_own c = search (rules, rowing)

pub input_counted-requires : goal.input_counted-requires
input_counted-requires c = (search rules, search rowing)

pub returns : goal.returns
returns c = search (rules, rowing)

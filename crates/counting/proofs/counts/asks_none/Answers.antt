-- By the demand's kind.
use Rattle.counting.proofs.CountLaws.{asking_none}
use borrow.Author.Rules.{rules}
use Rattle.counting.proofs.counts.asks_none.Goals as goal

pub returns-in-HoldNone : goal.returns-in-HoldNone
returns-in-HoldNone c = search (rules, asking_none)

pub returns-in_default : goal.returns-in_default
returns-in_default c = search (rules, asking_none, c.in_default.not-HoldNone)

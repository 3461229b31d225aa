-- A box that is named has its line, and another none.
use Rattle.counting.proofs.LineLaws.{silencing}
use borrow.Author.Rules.{rules}
use Rattle.counting.proofs.text.put_silent.Goals as goal

pub returns-then-not-is_counted : goal.returns-then-not-is_counted
returns-then-not-is_counted c = search (rules, silencing)

pub returns : goal.returns
returns c = search (rules, silencing)

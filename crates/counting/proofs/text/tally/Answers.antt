-- Each count by itself.
use Rattle.counting.proofs.EntryLaws.{tally_is}
use borrow.Author.Rules.{rules}
use Rattle.counting.proofs.text.tally.Goals as goal

pub returns : goal.returns
returns c = search (rules, tally_is)

-- The lower of the two ids by its definition (lowest_found).
use borrow.Author.Rules.{rules}
use Rattle.joining.proofs.AnswerLaws.{lowest_found}
use Rattle.joining.proofs.entry.lowest_unmatched.Goals as goal

pub returns : goal.returns
returns c = search (rules, lowest_found)

-- The offset is the definition's; the bounds keep its product small.
use Rattle.numbers.proofs.StrideLaws.{striding}
use borrow.Author.Rules.{rules}
use Rattle.numbers.proofs.strides.stride.Goals as goal

pub returns : goal.returns
returns c = search (rules, striding)

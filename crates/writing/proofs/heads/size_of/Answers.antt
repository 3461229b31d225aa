-- Two strides, the nodes behind the policies and the edges behind the nodes.
use Rattle.writing.proofs.HeadLaws.{sized}
use borrow.Author.Rules.{rules}
use Rattle.writing.proofs.heads.size_of.Goals as goal

pub returns : goal.returns
returns c = (search sized, search rules)

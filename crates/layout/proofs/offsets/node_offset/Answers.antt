-- The nodes begin behind the policies, each of the form's width.
use Rattle.layout.proofs.CodeLaws.{node_offset_lem}
use borrow.Author.Rules.{rules}
use Rattle.layout.proofs.offsets.node_offset.Goals as goal

pub returns : goal.returns
returns c = (search node_offset_lem, search rules)

-- The edges begin behind the nodes, five bytes each.
use Rattle.layout.proofs.CodeLaws.{edge_offset_lem}
use borrow.Author.Rules.{rules}
use Rattle.layout.proofs.offsets.edge_offset.Goals as goal

pub returns : goal.returns
returns c = (search edge_offset_lem, search rules)

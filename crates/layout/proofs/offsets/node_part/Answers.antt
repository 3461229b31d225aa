-- The nodes begin behind the policies.
use Rattle.layout.proofs.CodeLaws.{node_part_lem}
use borrow.Author.Rules.{rules}
use Rattle.layout.proofs.offsets.node_part.Goals as goal

pub returns : goal.returns
returns c = (search node_part_lem, search rules, search rules)

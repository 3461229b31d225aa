-- Nine bytes and two routes.
use Rattle.layout.proofs.CodeLaws.{node_width_lem}
use borrow.Author.Rules.{rules}
use Rattle.layout.proofs.offsets.node_width.Goals as goal

pub returns : goal.returns
returns c = (search node_width_lem, search rules, search rules)

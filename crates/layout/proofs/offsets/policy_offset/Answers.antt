-- The policies begin at 10, thirteen bytes each.
use Rattle.layout.proofs.CodeLaws.{policy_offset_lem}
use borrow.Author.Rules.{rules}
use Rattle.layout.proofs.offsets.policy_offset.Goals as goal

pub returns : goal.returns
returns c = (search policy_offset_lem, search rules, search rules)

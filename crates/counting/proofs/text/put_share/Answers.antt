-- The words one behind another are the line (share_put).
use Rattle.counting.proofs.LineLaws.{telling}
use borrow.Author.Rules.{rules}
use Rattle.counting.proofs.text.put_share.Goals as goal

pub returns : goal.returns
returns c = search (rules, telling)

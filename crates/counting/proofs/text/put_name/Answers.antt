-- The words one behind another are the line (name_put).
use Rattle.counting.proofs.LineLaws.{telling}
use borrow.Author.Rules.{rules}
use Rattle.counting.proofs.text.put_name.Goals as goal

pub returns : goal.returns
returns c = (search telling, search rules)

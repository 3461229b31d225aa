-- The lines one behind another (counts_put).
use Rattle.counting.proofs.LineLaws.{telling}
use borrow.Author.Rules.{rules}
use Rattle.counting.proofs.text.put_counts.Goals as goal

pub returns : goal.returns
returns c = (search telling, search rules)

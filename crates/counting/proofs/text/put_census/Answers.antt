-- The judge's line, the counts and the lines of the boxes, one behind another (pass_put).
use Rattle.counting.proofs.LineLaws.{passing}
use borrow.Author.Rules.{rules}
use Rattle.counting.proofs.text.put_census.Goals as goal

pub put_counts-next-requires : goal.put_counts-next-requires
put_counts-next-requires c = search (rules, passing)

pub put_silents-requires : goal.put_silents-requires
put_silents-requires c = search (rules, passing)

pub returns : goal.returns
returns c = search (rules, passing)

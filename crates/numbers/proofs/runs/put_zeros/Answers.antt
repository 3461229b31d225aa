-- The zeros laid over a part of the buffer are a store of them at the part's offset (run_put).
use lib.ListN.{replicate, length-replicate}
use Rattle.numbers.proofs.RunLaws.{run_put}
use borrow.Author.Rules.{rules}
use Rattle.numbers.proofs.runs.put_zeros.Goals as goal

pub returns : goal.returns
returns c = run_put _ _ (replicate c.args.n 0) _ c.args.n (length-replicate c.args.n 0) c.requires (search rules)

-- The bytes laid over a part of the buffer are a store of them at the part's offset (run_put).
use Rattle.numbers.proofs.RunLaws.{run_put}
use borrow.Author.Rules.{rules}
use Rattle.numbers.proofs.put_bytes.Goals as goal

pub returns : goal.returns
returns g c = run_put _ _ c.args.bytes _ g.row.N (search rules) (search rules) (search rules)

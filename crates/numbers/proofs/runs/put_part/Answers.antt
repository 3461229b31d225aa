-- A copy over a part of the buffer is a store of the part at the offset (part_put).
use Rattle.numbers.proofs.RunLaws.{part_put}
use Rattle.numbers.proofs.runs.put_part.Goals as goal

pub returns : goal.returns
returns c = part_put _ _ c.args.src.now _ _ c.args.n c.requires.0 c.requires.1 c.copy_from_slice.ensures.after

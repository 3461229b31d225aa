-- The kit's number of four bytes is the definition's (u32_read).
use mathlib.Core.Path.{◌∙◌}
use Rattle.numbers.proofs.Laws.{u32_read}
use Rattle.numbers.proofs.u32_at.Goals as goal

pub returns : goal.returns
returns c = c.from_be_bytes.ensures ∙ u32_read c.args.b.now c.args.at

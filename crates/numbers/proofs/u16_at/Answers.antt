-- The kit's number of two bytes is the definition's (u16_read).
use mathlib.Core.Path.{◌∙◌}
use Rattle.numbers.proofs.Laws.{u16_read}
use Rattle.numbers.proofs.u16_at.Goals as goal

pub returns : goal.returns
returns c = c.from_be_bytes.ensures ∙ u16_read c.args.b.now c.args.at

-- What is behind an input's first bytes does not show where these are over the cutter's bound.
use mathlib.Core.Path.{◌≡◌}
use mathlib.Core.List.{List, ◌++◌}
use Prim.Native.Nat.{ℕ, ◌<◌}
use lib.ListN.{length}
use Rattle.lines.proofs.Starts.{bound_start}
use Rattle.cutting.specs.Text.{cut_bound, cut_text}

pub cut_start : (read more : List ℕ) → cut_bound < length read → cut_text (read ++ more) ≡ cut_text read
unfolding cut_text
cut_start read more over = bound_start cut_bound read more _ _ over

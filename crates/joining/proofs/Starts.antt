-- What is behind an input's first bytes does not show where these are over the joiner's bound.
use mathlib.Core.Path.{◌≡◌}
use mathlib.Core.List.{List, ◌++◌}
use Prim.Native.Nat.{ℕ, ◌<◌}
use lib.ListN.{length}
use Rattle.lines.proofs.Starts.{bound_start}
use Rattle.joining.specs.Text.{join_bound, join_text}

pub join_start : (read more : List ℕ) → join_bound < length read → join_text (read ++ more) ≡ join_text read
unfolding join_text
join_start read more over = bound_start join_bound read more _ _ over

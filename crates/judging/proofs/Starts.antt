-- What is behind an input's first bytes does not show where these are over the judge's bound.
use mathlib.Core.Path.{◌≡◌}
use mathlib.Core.List.{List, ◌++◌}
use Prim.Native.Nat.{ℕ, ◌<◌}
use lib.ListN.{length}
use Rattle.lines.proofs.Starts.{bound_start}
use Rattle.judging.specs.Text.{judge_bound, judge_text}

pub judge_start : (read more : List ℕ) → judge_bound < length read → judge_text (read ++ more) ≡ judge_text read
unfolding judge_text
judge_start read more over = bound_start judge_bound read more _ _ over

-- An input over a program's bound is answered by its length alone, so that any start of it that is over the bound has the same answer.
use mathlib.Core.Path.{◌≡◌, sym, ◌∙◌}
use mathlib.Core.List.{List, ◌++◌}
use Prim.Native.Nat.{ℕ, ◌<◌}
use native.Mathlib.Omega.{arith}
use lib.ListN.{length, length-append}
use Rattle.lines.specs.Bound.{within_bound}
use Rattle.lines.proofs.Answers.{bound_over}

pub bound_start : (bound : ℕ) (read more first second : List ℕ) → bound < length read
    → within_bound bound (read ++ more) first ≡ within_bound bound read second
bound_start bound read more first second over =
    sym (bound_over bound (read ++ more) first (omega (arith, length-append read more))) ∙ bound_over bound read second over

-- What a program answers.
--     bound_over, bound_kept     an input that is over the program's bound, and one that is not
--     bound_short                how long the answer is at most, in both cases
--     answering                  a text that was placed, as another that it is equal to
--     answer_read                the text read back from the buffer
use mathlib.Core.Path.{◌≡◌, ap, ◌∙◌}
use mathlib.Core.Bool.{Bool, true, false, cond}
use mathlib.Core.List.{List}
use Prim.Native.Nat.{ℕ, ◌-◌, ◌≤◌, ◌<◌}
use native.Mathlib.Nat.{sub-zero}
use native.Mathlib.Omega.{arith}
use lib.Dec.{ltb}
use lib.ListN.{length, take, drop}
use lib.Seq.{take-append_seam}
use borrow.Author.Tests.{lt-ltb, le-ltb, le-leb}
use Rattle.lists.specs.Laid.{over, placed}
use Rattle.lines.specs.Line.{refused_line, longest_line}
use Rattle.lines.specs.Bound.{within_bound}
use Rattle.lines.proofs.Lengths.{refused_length}

module _ (bound : ℕ) (input answer : List ℕ) where
  pub bound_over : bound < length input → refused_line 5 bound ≡ within_bound bound input answer
  unfolding within_bound
  bound_over h = rw (lt-ltb bound (length input) h)

  pub bound_kept : length input ≤ bound → answer ≡ within_bound bound input answer
  unfolding within_bound
  bound_kept h = rw (le-ltb bound (length input) h)

  pub bound_short : (most : ℕ) → longest_line ≤ most → length answer ≤ most → length (within_bound bound input answer) ≤ most
  unfolding within_bound
  bound_short most room h = go (ltb bound (length input))
    where
      go : (t : Bool) → length (cond t (refused_line 5 bound) answer) ≤ most
      go true = omega (arith, refused_length 5 bound)
      go false = h

-- a writer's answer: how long the text is, and what it placed
module _ (written text : List ℕ) where
  pub answer_count : (r : ℕ) → r ≡ length written → written ≡ text → r ≡ length text
  answer_count r q e = q ∙ ap length e

  pub answer_placed : (out out' : List ℕ) → out' ≡ placed written out → written ≡ text → out' ≡ placed text out
  answer_placed out out' q e = q ∙ ap (λ (l : List ℕ). placed l out) e

pub ruleset answering = (answer_count, answer_placed)

-- what stands at the start of a buffer that was long enough
pub answer_read : (text out out' : List ℕ) (r : ℕ) → length text ≤ length out → r ≡ length text → out' ≡ placed text out → take (r - 0) (drop 0 out') ≡ text
unfolding placed over
answer_read text out out' r room q e = rw (sub-zero, q, e, le-leb (length text) (length out) room) (take-append_seam text (drop (length text) out))

-- Where the room was not filled the input is what was read of it; where it was, and is longer than the bound, what is behind does not show
-- (answered).
use mathlib.Core.Path.{◌≡◌, sym, ◌∙◌}
use mathlib.Core.List.{List, append-nil}
use mathlib.Core.Logic.{⊎_elim}
use Prim.Native.Nat.{ℕ, ◌-◌, ◌≤◌, ◌<◌}
use native.Mathlib.Nat.{sub-zero}
use native.Mathlib.Omega.{arith}
use lib.ListN.{length, take, drop, length-take}
use Rattle.lists.proofs.Test.{le_or_lt}
use Rattle.streams.specs.Answers.{Answers, Bounded}

pub answered : (bound : ℕ) (text : List ℕ → List ℕ) → Bounded bound text → (room : List ℕ) (count : ℕ) (written : List ℕ)
    → bound < length room → count ≤ length room → written ≡ text (take (count - 0) (drop 0 room)) → Answers text room count written
unfolding Answers
answered bound text b room count written over within e more none = ⊎_elim
    (λ (full : length room ≤ count). q ∙ sym (b (take count room) more (simp length-take (omega arith))))
    (λ short. rw (none short, append-nil) q)
    (le_or_lt (length room) count)
  where
    q : written ≡ text (take count room)
    q = rw sub-zero at e

-- The split of a record with bytes behind it gives that record and those bytes. A rest as it is lent, and what is behind an id in it.
use mathlib.Core.Path.{◌≡◌, sym, ap, ◌∙◌}
use mathlib.Core.Logic.{⊎_elim}
use mathlib.Core.List.{List, [], ◌++◌}
use Prim.Native.Nat.{ℕ, ◌+◌, ◌-◌, ◌≤◌, ◌<◌, min}
use native.Mathlib.Nat.{min-eq_left, min-eq_right}
use native.Mathlib.Omega.{arith}
use lib.ListN.{length, get_or, take, drop, length-append, length-drop, drop_of_length-le, get_or-append}
use lib.Seq.{take_all, take-append_seam, drop-append_seam}
use borrow.Author.Tests.{le-ltb}
use Rattle.lists.proofs.Test.{le_or_lt}
use Rattle.numbers.specs.BigEndian.{u16_at, u32_at}
use Rattle.lines.specs.Split.{first_length, first_record, rest_of, behind_named}

-- what is lent from an offset on
pub rest_lent : (input : List ℕ) (at : ℕ) → take (length input - at) (drop at input) ≡ drop at input
rest_lent input at = take_all (length input - at) (drop at input) (simp length-drop (omega arith))

-- what is behind an id, of which bytes may be missing
pub rest_named : (rest : List ℕ) (n : ℕ) → n ≡ min 2 (length rest) → drop n rest ≡ behind_named rest
rest_named rest n e = ⊎_elim
    (λ (l : 2 ≤ length rest). rw (e ∙ min-eq_left l))
    (λ (l : length rest < 2).
    let all : drop n rest ≡ [] = drop_of_length-le rest {i = n} (omega (arith, e ∙ min-eq_right (omega arith))) in
    let two : drop 2 rest ≡ [] = drop_of_length-le rest {i = 2} (omega arith) in
    all ∙ sym two)
    (le_or_lt 2 (length rest))

-- a record that is as long as its length field says
module _ (r s : List ℕ) (long : 4 ≤ length r) (e : u32_at r 0 + 4 ≡ length r) where
  field : u32_at (r ++ s) 0 ≡ u32_at r 0
  unfolding u32_at u16_at
  field = rw (at 0 (omega arith), at 1 (omega arith), at 2 (omega arith), at 3 (omega arith))
    where
      at : (k : ℕ) → k < 4 → get_or (r ++ s) k 0 ≡ get_or r k 0
      at k h = get_or-append r s 0 k (omega arith)

  first_is : first_length (r ++ s) ≡ length r
  unfolding first_length
  first_is =
      let l : length (r ++ s) ≡ length r + length s = length-append r s in
      rw (le-ltb (length (r ++ s)) 4 (omega arith), field, e) (min-eq_left (omega arith))

  pub split_record : first_record (r ++ s) ≡ r
  split_record = ap (λ (k : ℕ). take k (r ++ s)) first_is ∙ take-append_seam r s

  pub split_rest : rest_of (r ++ s) ≡ s
  split_rest = ap (λ (k : ℕ). drop k (r ++ s)) first_is ∙ drop-append_seam r s

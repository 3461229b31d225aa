-- The elements of a list with each number below n, added up, are all of them, where no number is over.
use mathlib.Core.Path.{◌≡◌, refl, sym, ap, ◌∙◌}
use mathlib.Core.Bool.{Bool, true, false}
use mathlib.Core.List.{List, [], ◌∷◌}
use mathlib.Core.Logic.{⊎_elim}
use Prim.Native.Nat.{ℕ, zero, suc, ◌+◌, ◌≤◌, ◌<◌}
use native.Mathlib.Omega.{arith}
use lib.Dec.{eqb, ltb}
use lib.ListN.{length}
use borrow.Author.Tests.{eqb-true, eqb-false, ne_eqb, lt-ltb, le-ltb}
use Rattle.lists.specs.All.{All}
use Rattle.lists.proofs.All.{all_map, all_of, false_any}
use Rattle.lists.specs.Filter.{filter}
use Rattle.lists.proofs.Filter.{filter_all, filter_none}
use Rattle.lists.proofs.Test.{le_or_lt}
use Rattle.networks.specs.Counts.{sum}

module _ {A : Type 0} (number : A → ℕ) where
  abbrev having : ℕ → List A → List A
  having k = filter (λ (x : A). eqb (number x) k)

  abbrev below : ℕ → List A → List A
  below n = filter (λ (x : A). ltb (number x) n)

  one_more : (n : ℕ) (xs : List A) → length (below n xs) + length (having n xs) ≡ length (below (suc n) xs)
  one_more n [] = refl
  one_more n (x ∷ xs) = ⊎_elim (λ l. high l (eqb (number x) n) refl (one_more n xs)) (λ l. low l (one_more n xs)) (le_or_lt n (number x))
    where
      low : number x < n → length (below n xs) + length (having n xs) ≡ length (below (suc n) xs)
          → length (below n (x ∷ xs)) + length (having n (x ∷ xs)) ≡ length (below (suc n) (x ∷ xs))
      low l e = rw (lt-ltb (number x) n l, ne_eqb (number x) n (λ q. omega arith), lt-ltb (number x) (suc n) (omega arith)) (omega arith)

      high : n ≤ number x → (t : Bool) → eqb (number x) n ≡ t → length (below n xs) + length (having n xs) ≡ length (below (suc n) xs)
          → length (below n (x ∷ xs)) + length (having n (x ∷ xs)) ≡ length (below (suc n) (x ∷ xs))
      high l true q e = let s = eqb-true (number x) n q in rw (le-ltb (number x) n l, q, lt-ltb (number x) (suc n) (omega arith)) (omega arith)
      high l false q e =
          let s = eqb-false (number x) n q in
          rw (le-ltb (number x) n l, q, le-ltb (number x) (suc n) (above (number x) n l s)) e
        where
          above : (i j : ℕ) → j ≤ i → (i ≡ j → ⊥) → suc j ≤ i
          above i j l s = ⊎_elim (λ (m : i ≤ j). absurd (s (omega arith))) (λ (m : j < i). m) (le_or_lt i j)

  sum_below : (n : ℕ) (xs : List A) → sum (λ (k : ℕ). length (having k xs)) n ≡ length (below n xs)
  unfolding sum
  sum_below zero xs = sym (ap length (filter_none (λ (x : A). ltb (number x) 0) xs
      (false_any (λ (x : A). ltb (number x) 0) xs (all_of xs (λ x. le-ltb (number x) 0 (omega arith))))))
  sum_below (suc n) xs = ap (λ (m : ℕ). m + length (having n xs)) (sum_below n xs) ∙ one_more n xs

  pub sum_numbers : (n : ℕ) (xs : List A) → All (λ (x : A). number x < n) xs → sum (λ (k : ℕ). length (having k xs)) n ≡ length xs
  sum_numbers n xs h = sum_below n xs ∙ ap length (filter_all (λ (x : A). ltb (number x) n) xs (all_map xs (λ x l. lt-ltb (number x) n l) h))

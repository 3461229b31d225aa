-- The digits of a number, counted, and told by how few they are; the first of them.
use mathlib.Core.Path.{◌≡◌, refl, ap, ◌∙◌}
use mathlib.Core.Bool.{Bool, true, false}
use mathlib.Core.List.{List, [], ◌∷◌, ◌++◌}
use mathlib.Core.Logic.{⊎_elim}
use Prim.Native.Nat.{ℕ, zero, suc, ◌+◌, ◌-◌, ◌/◌, ◌%◌, ◌^◌, ◌≤◌, ◌<◌}
use native.Mathlib.Nat.{pow-le-pow_right, zero-lt-suc}
use native.Mathlib.Numerals.{add-one}
use native.Mathlib.Omega.{arith}
use lib.Dec.{leb}
use lib.ListN.{length, length-append}
use borrow.Author.Tests.{lt-ltb, le-leb, lt-leb}
use Rattle.io.specs.Digits.{last_digits, hex_digit_ascii, IsDigitCount}
use Rattle.lists.specs.First.{first_bad}
use Rattle.lists.proofs.First.{first_here, first_none, first_le}
use Rattle.lists.proofs.Test.{le_or_lt}
use Rattle.numbers.specs.Decimal.{places, decimal}

pub length_digits : (b k n : ℕ) → length (last_digits b k n) ≡ k
length_digits b zero n = refl
length_digits b (suc k) n = length-append (last_digits b k (n / b)) (hex_digit_ascii (n % b) ∷ []) ∙ ap (λ (m : ℕ). m + 1) (length_digits b k (n / b)) ∙ add-one k

pub length_decimal : (n : ℕ) → length (decimal n) ≡ places n
unfolding decimal
length_decimal n = length_digits 10 (places n) n

-- no number is shown with more than 20 digits
pub decimal_short : (n : ℕ) → length (decimal n) ≤ 20
unfolding places
decimal_short n = let h = first_le (λ k. leb (10 ^ (k + 1)) n) 19 in rw (length_decimal n) (omega arith)

-- a number's text begins with a digit
digits_first : (k n : ℕ) → (d : ℕ) × (ds : List ℕ) × (48 ≤ d) × (d ≤ 57) × (last_digits 10 (suc k) n ≡ d ∷ ds)
digits_first zero n =
    let l : n % 10 < 10 = omega arith in
    (48 + n % 10, [], omega arith, omega arith, rw (lt-ltb (n % 10) 10 l) refl)
digits_first (suc k) n =
    let f = digits_first k (n / 10) in
    (f.0, f.1 ++ (hex_digit_ascii (n % 10) ∷ []), f.2, f.3, ap (λ (ds : List ℕ). ds ++ (hex_digit_ascii (n % 10) ∷ [])) f.4)

pub decimal_first : (n : ℕ) → (d : ℕ) × (ds : List ℕ) × (48 ≤ d) × (d ≤ 57) × (decimal n ≡ d ∷ ds)
unfolding decimal places
decimal_first n = let k = first_bad (λ (j : ℕ). leb (10 ^ (j + 1)) n) 19 in rw (add-one k) (digits_first k n)

power : (i j : ℕ) → i ≤ j → 10 ^ i ≤ 10 ^ j
power i j h = pow-le-pow_right (zero-lt-suc 9) h

-- the fewest digits that hold a number are as many as `places` says
pub fewest_places : (n k : ℕ) → n < 2 ^ 64 → IsDigitCount 10 1 n k → k ≡ places n
unfolding places
fewest_places n k small f =
    ⊎_elim
    (λ (l : 19 ≤ k - 1). let e = long l in let z = first_none ok 19 (λ j m. below j (omega arith)) in omega arith)
    (λ (l : k - 1 < 19). let z = first_here ok 19 (k - 1) l below at in omega arith)
    (le_or_lt 19 (k - 1))
  where
    ok : ℕ → Bool
    ok j = leb (10 ^ (j + 1)) n

    below : (j : ℕ) → j < k - 1 → ok j ≡ true
    below j h =
        let few = f.2 (omega arith) in
        let p = power (j + 1) (k - 1) (omega arith) in
        le-leb (10 ^ (j + 1)) n (omega arith)

    at : ok (k - 1) ≡ false
    at =
        let e : k - 1 + 1 ≡ k = let h = f.0 in omega arith in
        lt-leb (10 ^ (k - 1 + 1)) n (rw e f.1)

    long : 19 ≤ k - 1 → k - 1 ≡ 19
    long l = ⊎_elim
        (λ (m : 20 ≤ k - 1). absurd (let few = f.2 (omega arith) in let p = power 20 (k - 1) m in omega arith))
        (λ (m : k - 1 < 20). omega arith)
        (le_or_lt 20 (k - 1))

pub fewest_decimal : (n k : ℕ) → n < 2 ^ 64 → IsDigitCount 10 1 n k → last_digits 10 k n ≡ decimal n
unfolding decimal
fewest_decimal n k small f = ap (λ (m : ℕ). last_digits 10 m n) (fewest_places n k small f)

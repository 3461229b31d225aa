-- A number as text: its decimal digits in ASCII, no sign and no zeros in front.
use Rattle.std.specs.Prelude.{ℕ, ◌+◌, ◌^◌, List, leb}
use Rattle.io.specs.Digits.{last_digits}
use Rattle.lists.specs.First.{first_bad}

-- how many digits a number below 10 ^ 20 takes: one more than the first k for which it is below 10 ^ (k + 1)
unfoldable pub places : ℕ → ℕ
places n = first_bad (λ k. leb (10 ^ (k + 1)) n) 19 + 1

-- the digits, the most significant first
unfoldable pub decimal : ℕ → List ℕ
decimal n = last_digits 10 (places n) n

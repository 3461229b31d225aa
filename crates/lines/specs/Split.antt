-- How a program's input is split (document 01, 'The two programs').
use Rattle.std.specs.Prelude.{ℕ, ◌+◌, min, cond, List, ltb, length, take, drop}
use Rattle.numbers.specs.BigEndian.{u16_at, u32_at}

-- The first record is the first length + 4 bytes, or all bytes if there are fewer than that or than four.
unfoldable pub first_length : List ℕ → ℕ
first_length input = cond (ltb (length input) 4) (length input) (min (u32_at input 0 + 4) (length input))

-- the first record
abbrev pub first_record : List ℕ → List ℕ
first_record input = take (first_length input) input

-- what is behind it, empty if there is nothing
abbrev pub rest_of : List ℕ → List ℕ
rest_of input = drop (first_length input) input

-- the id that a program reads behind the first record: two bytes, of which those that are missing are 0
abbrev pub named_of : List ℕ → ℕ
named_of rest = u16_at rest 0

-- what is behind the id
abbrev pub behind_named : List ℕ → List ℕ
behind_named rest = drop 2 rest

-- What a program owes for the bytes that it read: the answer to all of its input, also where they are a start of it.
use Rattle.std.specs.Prelude.{◌≡◌, List, [], ◌++◌, ℕ, ◌<◌, length, take}

-- What is written is the text of the input, when so many bytes were read of it into a room: anything may be behind them where the room is
-- full, and nothing is where it is not.
unfoldable pub Answers : (List ℕ → List ℕ) → List ℕ → ℕ → List ℕ → Type 0
Answers text room count written = (more : List ℕ) → (count < length room → more ≡ []) → written ≡ text (take count room ++ more)

-- The text of an input is that of any start of it that is over a bound.
abbrev pub Bounded : ℕ → (List ℕ → List ℕ) → Type 0
Bounded bound text = (read more : List ℕ) → bound < length read → text (read ++ more) ≡ text read

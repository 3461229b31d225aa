-- Bytes: a list whose numbers are all below 256.
use Rattle.std.specs.Prelude.{List, ℕ, ◌<◌, get_or}

-- what every byte slice keeps
abbrev pub Bytes : List ℕ → Type 0
Bytes b = (i : ℕ) → get_or b i 0 < 256

-- Bytes over the start of a buffer.
use Rattle.std.specs.Prelude.{cond, List, ◌++◌, ℕ, leb, length, drop}

-- w in the place of the first bytes of xs, the bytes behind as they were
unfoldable pub over : List ℕ → List ℕ → List ℕ
over w xs = w ++ drop (length w) xs

-- w over the start of xs where it fits, and xs as it was where it does not
unfoldable pub placed : List ℕ → List ℕ → List ℕ
unfolding over
placed w xs = cond (leb (length w) (length xs)) (over w xs) xs

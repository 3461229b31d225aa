-- Input that is too long for a program (document 01, 'The two programs').
use Rattle.std.specs.Prelude.{ℕ, cond, List, ltb, length}
use Rattle.lines.specs.Line.{refused_line}

-- What a program answers, unless its input is longer than its bound: then it is refused with 5, the bound as the place.
unfoldable pub within_bound : ℕ → List ℕ → List ℕ → List ℕ
within_bound bound input answer = cond (ltb bound (length input)) (refused_line 5 bound) answer

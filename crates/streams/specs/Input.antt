-- What reading can come to, one read or all together: no more bytes than there is room for.
use Rattle.std.specs.Prelude.{ℕ, ◌≤◌, Result, IfOk}

abbrev pub Within : {E : Type 0} → Result ℕ E → ℕ → Type 0
Within read room = IfOk read (λ count. count ≤ room)

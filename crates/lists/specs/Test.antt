-- The first row of a table that applies. Laws of tests are in proofs/Test.
use Rattle.std.specs.Prelude.{Bool, cond, List, [], ◌∷◌}

-- "First that applies, in this order": the answer of the first row whose test is true, or the last answer.
abbrev pub first_applying : {A : Type 0} → List (Bool × A) → A → A
first_applying [] z = z
first_applying (r ∷ rs) z = cond r.0 r.1 (first_applying rs z)

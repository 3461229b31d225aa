-- A run of zero bytes.
use Rattle.std.specs.Prelude.{ℕ, ◌+◌, Bool, List, eqb, get_or}
use Rattle.lists.specs.First.{every}

-- n bytes from an offset on are zero
unfoldable pub zeros : List ℕ → ℕ → ℕ → Bool
zeros b o n = every (λ k. eqb (get_or b (o + k) 0) 0) n

-- Two networks have the same policy at a place.
use Rattle.std.specs.Prelude.{ℕ, Bool, List}
use Rattle.routes.specs.Alike.{same_policy}
use Rattle.routes.specs.Form.{policy_at}
use Rattle.layout.specs.Layout.{policy_offset}

unfoldable pub policy_alike : List ℕ → List ℕ → ℕ → Bool
policy_alike a b i = same_policy (policy_at a (policy_offset i)) (policy_at b (policy_offset i))

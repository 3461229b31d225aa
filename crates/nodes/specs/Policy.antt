-- When the policies of a network are well formed (document 01, 'Over a wire').
use Rattle.std.specs.Prelude.{ℕ, Bool, List}
use Rattle.routes.specs.Form.{policy_formed}
use Rattle.layout.specs.Layout.{policy_offset}

-- the i-th policy is well formed
unfoldable pub policy_ok : List ℕ → ℕ → Bool
policy_ok b i = policy_formed b (policy_offset i)

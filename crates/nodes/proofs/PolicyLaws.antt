-- The ways on of the loop over the policies, and the room that it asks for.
use Prim.Native.Nat.{ℕ, ◌+◌, ◌^◌, ◌≤◌, ◌<◌}
use native.Mathlib.Omega.{arith}
use mathlib.Core.Path.{◌≡◌, refl, sym}
use mathlib.Core.Bool.{Bool, true, false, not}
use mathlib.Core.List.{List}
use lib.ListN.{length}
use mir.Syntax.{w64}
use mir.Val.{Fits}
use Rattle.lists.specs.First.{first_bad}
use Rattle.lists.proofs.Walk.{Walk, walk_start, walk_good, walk_ill, walk_end}
use Rattle.routes.specs.Form.{policy_formed}
use Rattle.layout.specs.Layout.{policy_offset}
use Rattle.nodes.specs.Policy.{policy_ok}
use Rattle.layout.proofs.Places.{policy_first, policy_after, policy_within}

abbrev pub Policies : List ℕ → ℕ → ℕ → ℕ → Type 0
Policies b n i o = Walk policy_offset (policy_ok b) n i o

module _ (b : List ℕ) (n : ℕ) where
  pub policy_start : Policies b n 0 10
  policy_start = walk_start _ _ n 10 (sym policy_first)

  module _ (i o : ℕ) (w : Policies b n i o) where
    pub policy_end : n ≤ i → n ≡ first_bad (policy_ok b) n
    policy_end l = walk_end _ _ n i o w l

    module _ (l : i < n) where
      module _ (t : Bool) (h : t ≡ policy_formed b o) where
        pub policy_ill : not t ≡ true → i ≡ first_bad (policy_ok b) n
        unfolding policy_ok
        policy_ill y = walk_ill _ _ (policy_formed b) (λ k. refl) n i o w l t h y

        pub policy_next : not t ≡ false → Policies b n (i + 1) (o + 13)
        unfolding policy_ok
        policy_next y = let here = w.here in walk_good _ _ (policy_formed b) (λ k. refl) n i o w l t h (o + 13) y (omega (arith, policy_after i))

      module _ (r : policy_offset n ≤ length b) where
        pub policy_here : o + 13 ≤ length b
        policy_here = let here = w.here in omega (arith, policy_within i n l)

        pub policy_fits : length b < 2 ^ 64 → Fits w64 (o + 13)
        policy_fits g = omega (arith, policy_here)

pub ruleset policies = (policy_start, policy_end, policy_ill, policy_next)

pub ruleset policy_rooms = (policy_here, policy_fits)

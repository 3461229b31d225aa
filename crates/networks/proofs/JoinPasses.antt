-- A list passes in the joint network of two exactly where it passes in both: a site that returns an edited fragment can have its part judged
-- alone. So for solutions, whatever the mapping; and the judged counts add up. Nothing is asked of the list: without an entry for an own box of
-- one of the two it passes neither there nor in the joint network.
use mathlib.Core.Path.{◌≡◌, ap, ◌∙◌, subst}
use mathlib.Core.Logic.{◌↔◌}
use Prim.Native.Nat.{ℕ, ◌+◌}
use native.Mathlib.Omega.{arith}
use lib.ListN.{length}
use Rattle.lists.specs.Answer.{given}
use Rattle.networks.specs.Algebra.{Algebra, Telling}
use Rattle.networks.specs.Network.{NetworkOver, own_boxes}
use Rattle.networks.specs.Sound.{Bounds, Sound}
use Rattle.networks.specs.Sheets.{RouteList, listed}
use Rattle.networks.specs.Lowest.{Entered}
use Rattle.networks.specs.Solution.{Solution}
use Rattle.networks.specs.Judge.{pass, judge, Passes}
use Rattle.networks.specs.Join.{joining, join, Fitting}
use Rattle.networks.proofs.Passing.{pass_count}
use Rattle.networks.proofs.Laws.Joins.{length_own}
use Rattle.networks.proofs.Laws.Fitted.{joined_fitting}
use Rattle.networks.proofs.Laws.JointSolutions.{joint_solved, joint_entered, joint_passes}

module _ (𝓐 : Algebra) (telling : Telling 𝓐) (B : Bounds) (N M F : NetworkOver 𝓐) (sound : Sound B N) (sound' : Sound B M)
    (joined : join 𝓐 telling B N M ≡ given F) where
  open 𝓐 use {Route}

  fitting : Fitting 𝓐 B N M
  fitting = (joined_fitting 𝓐 telling B N M F joined).0

  same : joining N M ≡ F
  same = (joined_fitting 𝓐 telling B N M F joined).1

  pub join_passes : (L : RouteList Route) → Passes 𝓐 F L ↔ (Passes 𝓐 N L × Passes 𝓐 M L)
  join_passes L = subst (λ (G : NetworkOver 𝓐). Passes 𝓐 G L ↔ (Passes 𝓐 N L × Passes 𝓐 M L)) same (joint_passes 𝓐 B N M sound sound' fitting L)

  pub join_entered : (L : RouteList Route) → Entered F (listed L) ↔ (Entered N (listed L) × Entered M (listed L))
  join_entered L = subst (λ (G : NetworkOver 𝓐). Entered G (listed L) ↔ (Entered N (listed L) × Entered M (listed L))) same
      (joint_entered 𝓐 B N M sound sound' fitting (listed L))

  pub join_solutions : (ℒ : ℕ → Route) → Solution 𝓐 F ℒ ↔ (Solution 𝓐 N ℒ × Solution 𝓐 M ℒ)
  join_solutions ℒ = subst (λ (G : NetworkOver 𝓐). Solution 𝓐 G ℒ ↔ (Solution 𝓐 N ℒ × Solution 𝓐 M ℒ)) same
      (joint_solved 𝓐 B N M sound sound' fitting ℒ)

  -- on a pass all own boxes are judged, and each of them is owned by one of the two
  pub join_count : (L : RouteList Route) (n m : ℕ) → judge 𝓐 N L ≡ given (pass n) → judge 𝓐 M L ≡ given (pass m) → judge 𝓐 F L ≡ given (pass (n + m))
  join_count L n m p q =
      let c = pass_count 𝓐 B N L sound n p in
      let d = pass_count 𝓐 B M L sound' m q in
      let k = length_own N M sound.boxes_rise sound'.boxes_rise fitting.own_once in
      subst (λ (G : NetworkOver 𝓐). judge 𝓐 G L ≡ given (pass (n + m))) same
      ((joint_passes 𝓐 B N M sound sound' fitting L).1 (counted N n p c, counted M m q d) ∙ ap (λ (t : ℕ). given (pass t)) (omega arith))
    where
      counted : (G : NetworkOver 𝓐) (t : ℕ) → judge 𝓐 G L ≡ given (pass t) → t ≡ length (own_boxes G) → Passes 𝓐 G L
      counted G t r l = r ∙ ap (λ (u : ℕ). given (pass u)) l

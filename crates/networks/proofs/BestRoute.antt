-- Where the laws of choice hold, the due route is the best of all that is offered to a box, in whatever order its wires stand: it is at
-- least as good as the initial route and as what every wire gives, and it is one of them.
use mathlib.Core.Path.{◌≡◌}
use mathlib.Core.Bool.{true}
use mathlib.Core.Logic.{◌⊎◌}
use Prim.Native.Nat.{ℕ}
use Rattle.lists.specs.All.{All, any}
use Rattle.networks.specs.Algebra.{Algebra, Choice, AtLeast}
use Rattle.networks.specs.Network.{Own, NetworkOver}
use Rattle.networks.specs.Solution.{offers, due}
use Rattle.networks.proofs.Laws.Order.{best_of_first, best_of_each, best_of_one}

module _ (𝓐 : Algebra) (choice : Choice 𝓐) (N : NetworkOver 𝓐) (ℒ : ℕ → 𝓐.Route) (b : Own 𝓐.Route 𝓐.Demand) where
  pub due_best : AtLeast 𝓐 (due 𝓐 N ℒ b) b.initial × All (AtLeast 𝓐 (due 𝓐 N ℒ b)) (offers 𝓐 N ℒ b.id)
  unfolding due
  due_best = (best_of_first 𝓐 choice b.initial (offers 𝓐 N ℒ b.id), best_of_each 𝓐 choice b.initial (offers 𝓐 N ℒ b.id))

  pub due_offered : (due 𝓐 N ℒ b ≡ b.initial) ⊎ (any (𝓐.same (due 𝓐 N ℒ b)) (offers 𝓐 N ℒ b.id) ≡ true)
  unfolding due
  due_offered = best_of_one 𝓐 choice b.initial (offers 𝓐 N ℒ b.id)

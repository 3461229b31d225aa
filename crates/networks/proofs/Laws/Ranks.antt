-- How many own boxes hold a route that costs no more than a box's, under any mapping ℒ: fewer for a cheaper one, since the box itself is one
-- of them and is none of those that cost no more than a cheaper one does.
use mathlib.Core.Path.{◌≡◌, ap}
use mathlib.Core.Bool.{true, not, ◌&&◌}
use Prim.Native.Nat.{ℕ, ◌≤◌, ◌<◌}
use native.Mathlib.Omega.{arith}
use lib.Dec.{leb}
use lib.ListN.{length}
use borrow.Author.Tests.{leb-true, le-leb, lt-leb}
use Rattle.lists.proofs.All.{all_of}
use Rattle.lists.specs.Filter.{filter}
use Rattle.lists.proofs.Filter.{length_filter, length_fewer}
use Rattle.lists.proofs.Test.{and_i}
use Rattle.networks.specs.Algebra.{Algebra, Costs}
use Rattle.networks.specs.Network.{Own, NetworkOver, own_boxes, owns}
use Rattle.networks.proofs.Laws.Boxes.{own_any}

module _ (𝓐 : Algebra) (N : NetworkOver 𝓐) (ℒ : ℕ → 𝓐.Route) (costs : Costs 𝓐) where
  open 𝓐 use {Route, Demand}

  abbrev cost : ℕ → ℕ
  cost i = costs.cost (ℒ i)

  abbrev pub rank : ℕ → ℕ
  rank i = length (filter (λ (b : Own Route Demand). leb (cost b.id) (cost i)) (own_boxes N))

  pub rank_within : (i : ℕ) → rank i ≤ length (own_boxes N)
  rank_within i = length_filter (λ (b : Own Route Demand). leb (cost b.id) (cost i)) (own_boxes N)

  pub rank_falls : (i j : ℕ) → owns N i ≡ true → cost j < cost i → rank j < rank i
  rank_falls i j t l =
      length_fewer (λ (b : Own Route Demand). leb (cost b.id) (cost j)) (λ (b : Own Route Demand). leb (cost b.id) (cost i)) (own_boxes N)
      (all_of (own_boxes N) (λ b e. le-leb (cost b.id) (cost i) (let k = leb-true (cost b.id) (cost j) e in omega arith)))
      (own_any N (λ (k : ℕ). leb (cost k) (cost i) && not (leb (cost k) (cost j))) i t
      (and_i (leb (cost i) (cost i)) (not (leb (cost i) (cost j))) (le-leb (cost i) (cost i) (omega arith)) (ap not (lt-leb (cost i) (cost j) l))))

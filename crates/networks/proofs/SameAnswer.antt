-- Two lists that agree on the own boxes of a network get the same answer from it: verdict, finding, count and refusal. To agree on a box
-- is to list the same route for it, or none of the two to have an entry.
use mathlib.Core.Path.{◌≡◌}
use Rattle.lists.specs.All.{All}
use Rattle.networks.specs.Algebra.{Algebra}
use Rattle.networks.specs.Network.{Own, NetworkOver, own_boxes}
use Rattle.networks.specs.Sheets.{RouteList, listed}
use Rattle.networks.specs.Judge.{judge}
use Rattle.networks.proofs.Laws.Agreeing.{same_judge}

pub same_answer : (𝓐 : Algebra) (N : NetworkOver 𝓐) (L M : RouteList 𝓐.Route)
    → All (λ (b : Own 𝓐.Route 𝓐.Demand). listed L b.id ≡ listed M b.id) (own_boxes N)
    → judge 𝓐 N L ≡ judge 𝓐 N M
same_answer = same_judge

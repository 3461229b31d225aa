-- Two lists that agree on the own boxes of a network, step by step through the judge.
use mathlib.Core.Path.{◌≡◌, refl, ap, ap₂, fun_ext}
use mathlib.Core.Bool.{cond, not}
use mathlib.Core.Option.{Option, none, some, get_or}
use mathlib.Core.List.{List, [], ◌∷◌}
use Prim.Native.Nat.{ℕ, suc}
use Rattle.lists.specs.All.{All}
use Rattle.networks.specs.Algebra.{Algebra}
use Rattle.networks.specs.Network.{Own, Box, own, input, NetworkOver, own_boxes, box}
use Rattle.networks.specs.Sheets.{RouteList, listed}
use Rattle.lists.specs.Answer.{given, is_some, row}
use Rattle.networks.specs.Lowest.{lowest}
use Rattle.networks.specs.Solution.{route_of, due, mapping}
use Rattle.networks.specs.Judge.{Finding, Verdict, first_finding, fault, stop, verdict_from, judge}
use Rattle.networks.proofs.Laws.Boxes.{own_found}
use Rattle.lists.specs.Test.{first_applying}

module _ (𝓐 : Algebra) (N : NetworkOver 𝓐) (L M : RouteList 𝓐.Route)
    (agree : All (λ (b : Own 𝓐.Route 𝓐.Demand). listed L b.id ≡ listed M b.id) (own_boxes N)) where
  open 𝓐 use {Route, Policy, Demand, no_route}

  same_mapping : mapping 𝓐 N L ≡ mapping 𝓐 N M
  unfolding mapping
  same_mapping = fun_ext (λ i. ap (λ (o : Option Route). get_or o no_route) (at i (box N i) refl))
    where
      at : (i : ℕ) (o : Option (Box Route Demand)) → box N i ≡ o → route_of L o ≡ route_of M o
      at i none q = refl
      at i (some (input a)) q = refl
      at i (some (own b)) q = own_found N (λ (c : Own Route Demand). listed L c.id ≡ listed M c.id) i b agree q

  same_fault : (b : Own Route Demand) → listed L b.id ≡ listed M b.id → fault 𝓐 N L b ≡ fault 𝓐 N M b
  unfolding fault
  same_fault b e = ap₂ (λ (o : Option Route) (ℒ : ℕ → Route). first_finding 𝓐 (get_or o no_route) (due 𝓐 N ℒ b) b.promise
      b.demand) e same_mapping

  same_verdict : (count : ℕ) (bs : List (Own Route Demand)) → All (λ (b : Own Route Demand). listed L b.id ≡ listed M b.id) bs
      → verdict_from 𝓐 N L count bs ≡ verdict_from 𝓐 N M count bs
  unfolding verdict_from
  same_verdict count [] h = refl
  same_verdict count (b ∷ bs) h = ap₂ (λ (o : Option (Finding Route)) (v : Verdict Route). stop 𝓐 o b.id (suc count) v) (same_fault b h.0)
      (same_verdict (suc count) bs h.1)

  same_unentered : (bs : List (Own Route Demand)) → All (λ (b : Own Route Demand). listed L b.id ≡ listed M b.id) bs
      → lowest (λ (b : Own Route Demand). not (is_some (listed L b.id))) bs ≡ lowest (λ (b : Own Route Demand). not (is_some (listed M b.id))) bs
  same_unentered [] h = refl
  same_unentered (b ∷ bs) h = ap₂ (λ (o : Option Route) (r : Option ℕ). cond (not (is_some o)) (some b.id) r) h.0 (same_unentered bs h.1)

  pub same_judge : judge 𝓐 N L ≡ judge 𝓐 N M
  unfolding judge
  same_judge = ap₂ (λ (o : Option ℕ) (v : Verdict Route). first_applying (row 17 o ∷ []) (given v)) (same_unentered (own_boxes N) agree)
      (same_verdict 0 (own_boxes N) agree)

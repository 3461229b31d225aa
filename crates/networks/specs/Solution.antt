-- Solutions of an open network (document 000, section IV-A), for any mapping ℒ of ids to routes.
--     trans, offers           what a wire gives, and what all wires into a box give it
--     best_of, due             the best of several; the right-hand side of equation 6
--     Solution                equations 6, 7 and 8, each read over one letter, so that an input holds its assumed route
--     Holds, Demands          equation 9 for any property, and for the property that every own box's demand is met
--     neighbour, mapping      the mapping that a route list gives a network
use Rattle.std.specs.Prelude.{◌≡◌, true, List, [], ◌∷◌, map, ℕ}
use Rattle.std.proofs.Math.Option
use Rattle.std.proofs.Math.Option.{Option, none, some, get_or}
use Rattle.std.proofs.Math.ListN.{get_elem?}
use Rattle.lists.specs.All.{All}
use Rattle.networks.specs.Algebra.{Algebra}
use Rattle.networks.specs.Network.{Own, Input, Box, own, input, Wire, Network, own_boxes, inputs, box, wires_into}
use Rattle.networks.specs.Sheets.{RouteList, listed}

-- A neighbour's route: the listed one of an own box, the assumed one of an input, and none where no box has the id.
abbrev pub route_of : {R D : Type 0} → RouteList R → Option (Box R D) → Option R
route_of L none = none
route_of L (some (own b)) = listed L b.id
route_of L (some (input a)) = some a.assumed

abbrev pub neighbour : {R P D : Type 0} → Network R P D → RouteList R → ℕ → Option R
neighbour N L i = route_of L (box N i)

module _ (𝓐 : Algebra) where
  open 𝓐 use {Route, Policy, Demand, no_route, best, carry, meets}

  -- trans(w, r). A place without a policy gives no route; a sound network's wires have no such place.
  abbrev pub trans : Network Route Policy Demand → Wire → Route → Route
  trans N w r = get_or (Option.map (λ (p : Policy). carry p r) (get_elem? N.policies w.policy)) no_route

  abbrev pub best_of : Route → List Route → Route
  best_of r [] = r
  best_of r (s ∷ ss) = best_of (best r s) ss

  -- what the wires into a box give it, in their order: trans(vu, ℒ(v)) for every vu ∈ E
  abbrev pub offers : Network Route Policy Demand → (ℕ → Route) → ℕ → List Route
  offers N ℒ i = map (λ (w : Wire). trans N w (ℒ w.from)) (wires_into N i)

  -- the due route of an own box: init(u) ⊕ ⨁ trans(vu, ℒ(v))
  unfoldable pub due : Network Route Policy Demand → (ℕ → Route) → Own Route Demand → Route
  due N ℒ b = best_of b.initial (offers N ℒ b.id)

  pub record Solution (N : Network Route Policy Demand) (ℒ : ℕ → Route) : Type 0 where
    -- ℒ(u) = init(u) ⊕ ⨁ trans(vu, ℒ(v)) at every u that is no input
    pub equation_6 : All (λ (b : Own Route Demand). ℒ b.id ≡ due N ℒ b) (own_boxes N)
    -- ℒ(u) = ass(u) at every input u
    pub equation_7 : All (λ (a : Input Route). ℒ a.id ≡ a.assumed) (inputs N)
    -- ℒ(u) = guar(u) at every u that promises a route, or promises to hold none
    pub equation_8 : All (λ (b : Own Route Demand). (q : Route) → b.promise ≡ some q → ℒ b.id ≡ q) (own_boxes N)

  -- P(u, ℒ(u)) at every u that is no input
  abbrev pub Holds : (ℕ → Route → Type 0) → Network Route Policy Demand → (ℕ → Route) → Type 0
  Holds P N ℒ = All (λ (b : Own Route Demand). P b.id (ℒ b.id)) (own_boxes N)

  -- the same where P says that u's demand is met
  abbrev pub Demands : Network Route Policy Demand → (ℕ → Route) → Type 0
  Demands N ℒ = All (λ (b : Own Route Demand). meets b.demand (ℒ b.id) ≡ true) (own_boxes N)

  -- What a list maps each id to. Ids without a box, and own boxes without an entry, do not matter to it: judging refuses the latter.
  unfoldable pub mapping : Network Route Policy Demand → RouteList Route → ℕ → Route
  mapping N L i = get_or (neighbour N L i) no_route

-- What a pass carried: which boxes hold a route, and whose silence somebody asked for. Judging does not look at it.
--     Asking                     which demands are to hold a route, and which to hold none
--     silent, overlooked         an own box that holds no route; and one whose silence nobody asked for
--     Census, census, told       the counts of a network under a list; how many own boxes have to hold none
--     census_in, AddsUp           the census of a fragment; the fragments' counts and the whole's
--     Empty                      every own box is silent
--     ListsNone, silent_list      a list that holds no route anywhere; one that has an entry for every own box and for nobody else
--     Eaten, Quiet               no assumed route gets over a wire; all that silence passes by
use Rattle.std.specs.Prelude.{◌≡◌, Bool, true, false, not, ◌&&◌, ℕ, eqb, length}
use mathlib.Core.List.{List, [], map, filter_map}
use Rattle.std.proofs.Math.Option.{some}
use Rattle.lists.specs.All.{All}
use Rattle.lists.specs.Answer.{Answer, given, refused, and_then}
use Rattle.lists.specs.Filter.{filter}
use Rattle.networks.specs.Algebra.{Algebra}
use Rattle.networks.specs.Counts.{sum}
use Rattle.networks.specs.Cut.{cut}
use Rattle.networks.specs.Judge.{held}
use Rattle.networks.specs.Network.{Own, Input, Wire, NetworkOver, own_boxes, inputs}
use Rattle.networks.specs.Sheets.{Sheet, RouteList, listed}
use Rattle.networks.specs.Solution.{trans}

-- What a demand asks, as far as silence goes: no route meets every demand but one to hold a route, and it alone meets one to hold none.
pub record Asking (𝓐 : Algebra) : Type 0 where
  pub asks_route : 𝓐.Demand → Bool
  pub asks_none : 𝓐.Demand → Bool
  pub none_meets : (d : 𝓐.Demand) → 𝓐.meets d 𝓐.no_route ≡ not (asks_route d)
  pub none_alone : (d : 𝓐.Demand) (x : 𝓐.Route) → asks_none d ≡ true → 𝓐.meets d x ≡ 𝓐.same x 𝓐.no_route

-- The counts that a census has, and the ids of the boxes that it names, by rising id.
pub record Census : Type 0 where
  -- own boxes, and those that hold a route
  pub boxes : ℕ
  pub holding : ℕ
  -- inputs, and those that are assumed to hold a route
  pub inputs : ℕ
  pub assumed : ℕ
  -- promises, and those of a route
  pub promises : ℕ
  pub promised : ℕ
  -- own boxes that have to hold a route
  pub asked : ℕ
  -- own boxes that hold none though nobody asked for it
  pub silent : List ℕ

-- a census of nobody, and the census of an answer: what was refused counts nobody
abbrev pub nobody : Census
nobody = record { boxes = 0; holding = 0; inputs = 0; assumed = 0; promises = 0; promised = 0; asked = 0; silent = [] }

abbrev pub taken : Answer Census → Census
taken (given c) = c
taken (refused number place) = nobody

-- The counts of own boxes in parts 0 to n - 1 come to the whole's. Inputs and promises are left out: a cut makes some of its own.
pub record AddsUp (part : ℕ → Census) (n : ℕ) (whole : Census) : Type 0 where
  pub boxes : sum (λ (k : ℕ). (part k).boxes) n ≡ whole.boxes
  pub holding : sum (λ (k : ℕ). (part k).holding) n ≡ whole.holding
  pub asked : sum (λ (k : ℕ). (part k).asked) n ≡ whole.asked
  pub silent : sum (λ (k : ℕ). length (part k).silent) n ≡ length whole.silent

module _ (𝓐 : Algebra) where
  open 𝓐 use {Route, Demand, no_route, same}

  -- a route, and not no route
  abbrev pub is_route : Route → Bool
  is_route r = not (same r no_route)

  -- An own box is silent under a list where it holds no route.
  abbrev pub silent : RouteList Route → Own Route Demand → Bool
  silent L b = same (held 𝓐 L b.id) no_route

  -- Silence is asked for by a demand to hold none, and by nothing else: a promise of no route may come from a note.
  abbrev pub overlooked : Asking 𝓐 → RouteList Route → Own Route Demand → Bool
  overlooked asking L b = silent L b && not (asking.asks_none b.demand)

  module _ (N : NetworkOver 𝓐) where
    -- the promises of own boxes, those of no route among them
    abbrev pub promises_in : List Route
    promises_in = filter_map (λ (b : Own Route Demand). b.promise) (own_boxes N)

    unfoldable pub census : Asking 𝓐 → RouteList Route → Census
    census asking L = record {
      boxes = length (own_boxes N);
      holding = length (filter (λ (b : Own Route Demand). not (silent L b)) (own_boxes N));
      inputs = length (inputs N);
      assumed = length (filter (λ (a : Input Route). is_route a.assumed) (inputs N));
      promises = length promises_in;
      promised = length (filter is_route promises_in);
      asked = length (filter (λ (b : Own Route Demand). asking.asks_route b.demand) (own_boxes N));
      silent = map (λ (b : Own Route Demand). b.id) (filter (overlooked asking L) (own_boxes N));
    }

  module _ (N : NetworkOver 𝓐) where
    -- the own boxes that have to hold none, whose silence is asked for
    abbrev pub told : Asking 𝓐 → ℕ
    told asking = length (filter (λ (b : Own Route Demand). asking.asks_none b.demand) (own_boxes N))

    -- the census of fragment k as the cutter gives it
    abbrev pub census_in : Sheet Route → Asking 𝓐 → RouteList Route → ℕ → Census
    census_in S asking L k = taken (and_then (cut 𝓐 N S k) (λ (F : NetworkOver 𝓐). given (census F asking L)))

    -- A pass is empty where every own box is silent.
    abbrev pub Empty : RouteList Route → Type 0
    Empty L = All (λ (b : Own Route Demand). silent L b ≡ true) (own_boxes N)

    -- Every own box has an entry, and it is no route.
    abbrev pub ListsNone : RouteList Route → Type 0
    ListsNone L = All (λ (b : Own Route Demand). listed L b.id ≡ some no_route) (own_boxes N)

    -- The list that has no route for every own box, and no other entry.
    abbrev pub silent_list : RouteList Route
    silent_list = map (λ (b : Own Route Demand). record { id = b.id; route = no_route }) (own_boxes N)

    -- Every assumed route is eaten on every wire out of its input.
    abbrev pub Eaten : Type 0
    Eaten = All (λ (a : Input Route). All (λ (w : Wire). eqb w.from a.id ≡ true → trans 𝓐 N w a.assumed ≡ no_route) N.wires) (inputs N)

    -- What silence passes by: no own box starts with a route, none gets in from an input, no promise is of a route and no demand is for one.
    pub record Quiet (asking : Asking 𝓐) : Type 0 where
      pub starts : All (λ (b : Own Route Demand). b.initial ≡ no_route) (own_boxes N)
      pub eaten : Eaten
      pub promises : All (λ (q : Route). q ≡ no_route) (promises_in N)
      pub demands : All (λ (b : Own Route Demand). asking.asks_route b.demand ≡ false) (own_boxes N)

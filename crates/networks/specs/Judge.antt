-- Judging (document 01): the first finding by rising id.
--     Finding, fault      what is wrong at one own box: 31 before 32 before 33
--     Verdict, judge      the answer, with the number of own boxes judged
--     up_to, judged        the judged count: of a named box, and of every answer
use Rattle.std.specs.Prelude.{◌≡◌, Bool, false, not, List, [], ◌∷◌, ℕ, suc, leb, length}
use Rattle.std.proofs.Math.Option.{Option, none, some, get_or}
use Rattle.lists.specs.Test.{first_applying}
use Rattle.lists.specs.Filter.{filter}
use Rattle.networks.specs.Algebra.{Algebra}
use Rattle.networks.specs.Network.{Own, Network, own_boxes}
use Rattle.networks.specs.Sheets.{RouteList, listed}
use Rattle.lists.specs.Answer.{Answer, given, refused, row}
use Rattle.networks.specs.Lowest.{unentered}
use Rattle.networks.specs.Solution.{due, mapping}

-- A finding's number, and the route that is given with it.
pub record Finding (R : Type 0) : Type 0 where
  pub number : ℕ
  pub route : R

-- `found` names the number, the box, the route and the count.
pub data Verdict (R : Type 0) : Type 0 where
  pass : (count : ℕ) → Verdict R
  found : (number node : ℕ) → R → (count : ℕ) → Verdict R

module _ (𝓐 : Algebra) where
  open 𝓐 use {Route, Policy, Demand, no_route, same, meets}

  -- the listed route of a box that has an entry
  abbrev pub held : RouteList Route → ℕ → Route
  held L i = get_or (listed L i) no_route

  -- whether a route breaks a promise: a promise of no route is broken by every other route
  abbrev pub breaks : Option Route → Route → Bool
  breaks none x = false
  breaks (some q) x = not (same x q)

  -- the first finding about a held route x, a due route u, a promise and a demand
  abbrev pub first_finding : Route → Route → Option Route → Demand → Option (Finding Route)
  first_finding x u promise demand = first_applying (
      (not (same x u), some (record { number = 31; route = u }))
      ∷ (breaks promise x, some (record { number = 32; route = get_or promise no_route }))
      ∷ (not (meets demand x), some (record { number = 33; route = x }))
      ∷ []
      ) none

  unfoldable pub fault : Network Route Policy Demand → RouteList Route → Own Route Demand → Option (Finding Route)
  fault N L b = first_finding (held L b.id) (due 𝓐 N (mapping 𝓐 N L) b) b.promise b.demand

  -- the verdict, where a box was judged: its finding, or the verdict on the boxes behind it
  abbrev pub stop : Option (Finding Route) → ℕ → ℕ → Verdict Route → Verdict Route
  stop none i count behind = behind
  stop (some f) i count behind = found f.number i f.route count

  -- the verdict from here on, with this many own boxes judged before
  unfoldable pub verdict_from : Network Route Policy Demand → RouteList Route → ℕ → List (Own Route Demand) → Verdict Route
  verdict_from N L before [] = pass before
  verdict_from N L before (b ∷ bs) = stop (fault N L b) b.id (suc before) (verdict_from N L (suc before) bs)

  -- what is refused: an own box without an entry
  abbrev pub judge_table : Network Route Policy Demand → RouteList Route → {A : Type 0} → List (Bool × Answer A)
  judge_table N L = row 17 (unentered N (listed L)) ∷ []

  unfoldable pub judge : Network Route Policy Demand → RouteList Route → Answer (Verdict Route)
  judge N L = first_applying (judge_table N L) (given (verdict_from N L 0 (own_boxes N)))

  -- the list passes in the network, with all own boxes judged
  abbrev pub Passes : Network Route Policy Demand → RouteList Route → Type 0
  Passes N L = judge N L ≡ given (pass (length (own_boxes N)))

-- The own boxes with an id up to that of a named box: what its finding's count is to be.
abbrev pub up_to : {R P D : Type 0} → Network R P D → ℕ → ℕ
up_to {R} {P} {D} N i = length (filter (λ (b : Own R D). leb b.id i) (own_boxes N))

-- The judged count of an answer, 0 where the call was refused.
abbrev pub judged : {R : Type 0} → Answer (Verdict R) → ℕ
judged (given (pass count)) = count
judged (given (found number node route count)) = count
judged (refused number place) = 0

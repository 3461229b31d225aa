-- Where a route started (document 02, K2), on bytes: by a list that passes, each own box that holds a route has a trail back over wires to a box
-- that holds its own initial route or an assumed one.
--     mapping_of, Simple                    the route of a box; no box twice, and no more wires than own boxes
--     TrailExists, EveryTrail              there is a trail, and every one is simple
--     Followed, TrailPrinted, OneFollowed  the trail that is printed, and that no other follows the same rule
--     HoldsNone                            a box that holds none is printed alone
--     NoTrail                              what is printed where there is no trail: a refusal, or the finding of a list that fails
--     FromNowhere                          where no route starts and none is assumed, none is held
use Rattle.std.specs.Prelude.{◌≡◌, true, false, List, [], ◌∷◌, ℕ, ◌≤◌, length}
use Rattle.lists.specs.All.{All, Distinct}
use Rattle.lists.specs.Answer.{given, refused}
use Rattle.lists.specs.Bytes.{Bytes}
use Rattle.lists.specs.Rows.{laid_rows}
use Rattle.routes.specs.declared.Demand.{Demand}
use Rattle.routes.specs.declared.Route.{Route}
use Rattle.routes.specs.declared.Route.TheVariants.{None}
use Rattle.networks.specs.Judge.{Verdict, found}
use Rattle.networks.specs.Network.{Own, Input, own_boxes, inputs, owns}
use Rattle.networks.specs.Silence.{ListsNone}
use Rattle.networks.specs.Solution.{mapping}
use Rattle.networks.specs.Trail.{Starts, Supplies, Trail, with_routes, trail, fails}
use Rattle.reading.specs.Whole.{HouseNetwork, HouseList, network_of, list_of}
use Rattle.lines.specs.Line.{box_line, refused_line}
use Rattle.judging.specs.Judging.{judge_records}
use Rattle.judging.specs.Text.{verdict_line}
use Rattle.tracing.specs.Tracing.{show_records}
use Rattle.tracing.specs.Text.{trail_output}
use Rattle.promises.specs.Calls.{house1, Passes}

module _ (network list : List ℕ) where
  abbrev N : HouseNetwork
  N = network_of network

  abbrev L : HouseList
  L = list_of list

  -- the route of a box: an own box's by the list, an input's by assumption
  abbrev pub mapping_of : ℕ → Route
  mapping_of = mapping house1 N L

  abbrev pub Simple : ℕ → List ℕ → Type 0
  Simple i js = Distinct (i ∷ js) × (length js ≤ length (own_boxes N))

  -- For each own box with a route in a passing list there is a trail back to where it started, which visits no own box twice and has no more
  -- wires than the network has own boxes.
  abbrev pub TrailExists : Type 0
  TrailExists = Bytes network → Passes network list → (i : ℕ) → owns N i ≡ true → (mapping_of i ≡ None → ⊥)
      → (js : List ℕ) × Trail house1 N mapping_of i js × Simple i js

  -- And so is every trail back from it, whichever senders it takes.
  abbrev pub EveryTrail : Type 0
  EveryTrail = Bytes network → Passes network list → (i : ℕ) (js : List ℕ) → (mapping_of i ≡ None → ⊥) → Trail house1 N mapping_of i js → Simple i js

  -- Back from box i by the rule of what is printed: unless the box starts its route, the sender with the lowest id of all that supply it.
  abbrev pub Followed : ℕ → List ℕ → Type 0
  Followed i [] = Starts house1 N mapping_of i
  Followed i (j ∷ js) = (Starts house1 N mapping_of i → ⊥) × Supplies house1 N mapping_of j i
      × ((k : ℕ) → Supplies house1 N mapping_of k i → j ≤ k) × Followed j js

  -- What is shown of an own box of a passing list, and printed one line a box, is the trail by that rule; it is simple, also where the box
  -- holds none.
  abbrev pub TrailPrinted : Type 0
  TrailPrinted = Bytes network → Passes network list → (i : ℕ) → owns N i ≡ true
      → (js : List ℕ) × Followed i js × Trail house1 N mapping_of i js × Simple i js
      × (show_records network list i ≡ given (trail (with_routes house1 N mapping_of (i ∷ js))))
      × (trail_output network list i ≡ laid_rows (λ (k : ℕ). box_line k (mapping_of k)) (i ∷ js))

  -- No other boxes follow the rule.
  abbrev pub OneFollowed : Type 0
  OneFollowed = (i : ℕ) (js ks : List ℕ) → Followed i js → Followed i ks → js ≡ ks

  -- An own box that holds none is printed alone.
  abbrev pub HoldsNone : Type 0
  HoldsNone = Bytes network → Passes network list → (i : ℕ) → owns N i ≡ true → mapping_of i ≡ None → trail_output network list i ≡ box_line i None

  -- Judging's refusals come first; then 18 with the id where no own box has it, also if an input does, whatever the verdict; then the finding
  -- of a list that fails, by the judge's numbers and in the judge's line.
  abbrev pub NoTrail : Type 0
  NoTrail = (i : ℕ)
      → ((number place : ℕ) → judge_records network list ≡ refused number place
      → (show_records network list i ≡ refused number place) × (trail_output network list i ≡ verdict_line (judge_records network list)))
      × ((verdict : Verdict Route) → judge_records network list ≡ given verdict → owns N i ≡ false
      → (show_records network list i ≡ refused 18 i) × (trail_output network list i ≡ refused_line 18 i))
      × ((number node count : ℕ) (route : Route) → judge_records network list ≡ given (found number node route count) → owns N i ≡ true
      → (show_records network list i ≡ given (fails number node route count)) × (trail_output network list i ≡ verdict_line (judge_records network list)))

  -- Where no own box starts with a route and no input assumes one, a list that passes holds none.
  abbrev pub FromNowhere : Type 0
  FromNowhere = Bytes network → Passes network list → All (λ (b : Own Route Demand). b.initial ≡ None) (own_boxes N)
      → All (λ (a : Input Route). a.assumed ≡ None) (inputs N) → ListsNone house1 N L

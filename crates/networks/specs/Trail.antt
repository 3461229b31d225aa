-- Where a route started (document 02, K2), under a mapping ℒ of ids to routes that is a solution.
--     Starts, Supplies, Trail       a trail: from a box back over wires, each of which gives the box before it what that holds, to a box that
--                                   holds its own initial route or an assumed one
--     supplier, sender, behind, trail_behind     the trail that is shown
--     with_routes, Shown, showing       the answer: the boxes of a trail with what they hold, or the finding of a list that fails
use Rattle.std.specs.Prelude.{◌≡◌, Bool, true, cond, not, List, [], ◌∷◌, map, ℕ, zero, suc, length}
use Rattle.std.proofs.Math.Option
use Rattle.std.proofs.Math.Option.{Option, none, some, Option-elim}
use Rattle.lists.specs.Answer.{Answer, given, refused}
use Rattle.lists.specs.Filter.{first_that}
use Rattle.lists.specs.Test.{first_applying}
use Rattle.networks.specs.Algebra.{Algebra}
use Rattle.networks.specs.Network.{Box, own, input, Wire, NetworkOver, own_boxes, box, owns, wires_into}
use Rattle.networks.specs.Sheets.{ListEntry, RouteList}
use Rattle.networks.specs.Solution.{trans, mapping}
use Rattle.networks.specs.Judge.{Verdict, pass, found}
use Rattle.networks.specs.Paper.{edge}

module _ (𝓐 : Algebra) (N : NetworkOver 𝓐) (ℒ : ℕ → 𝓐.Route) where
  open 𝓐 use {Route, Demand, same}

  -- a box that holds the route r starts it: it is its own initial route, or the one that is assumed of it
  abbrev pub StartedBy : Option (Box Route Demand) → Route → Type 0
  StartedBy none r = ⊥
  StartedBy (some (own b)) r = r ≡ b.initial
  StartedBy (some (input a)) r = r ≡ a.assumed

  abbrev pub Starts : ℕ → Type 0
  Starts i = StartedBy (box N i) (ℒ i)

  -- the wire from box j to box i gives box i the route that it holds
  abbrev pub Supplies : ℕ → ℕ → Type 0
  Supplies j i = (w : Wire) × (edge N j i ≡ some w) × (trans 𝓐 N w (ℒ j) ≡ ℒ i)

  -- These boxes, each a wire behind the one before, lead back from box i to where its route started.
  abbrev pub Trail : ℕ → List ℕ → Type 0
  Trail i [] = Starts i
  Trail i (j ∷ js) = Supplies j i × Trail j js

  -- whether a wire gives the route r
  abbrev pub gives : Route → Wire → Bool
  gives r w = same r (trans 𝓐 N w (ℒ w.from))

  -- the sender with the lowest id that supplies the route that box i holds: the wires into a box stand by rising sender
  unfoldable pub supplier : ℕ → Option ℕ
  supplier i = Option.map (λ (w : Wire). w.from) (first_that (gives (ℒ i)) (wires_into N i))

  -- whether the trail stops at a box that holds the route r: that is its own initial route, or it is an input
  abbrev pub stops : Option (Box Route Demand) → Route → Bool
  stops none r = true
  stops (some (own b)) r = same r b.initial
  stops (some (input a)) r = true

  -- the box that the trail goes back to from box i
  unfoldable pub sender : ℕ → Option ℕ
  sender i = cond (stops (box N i) (ℒ i)) none (supplier i)

  -- the boxes behind box i, over n wires at most
  unfoldable pub behind : ℕ → ℕ → List ℕ
  behind zero i = []
  behind (suc n) i = Option-elim (sender i) [] (λ (j : ℕ). j ∷ behind n j)

  -- A trail has no more wires than the network has own boxes (proofs/Trails.antt).
  unfoldable pub trail_behind : ℕ → List ℕ
  trail_behind i = behind (length (own_boxes N)) i

  -- these boxes, each with the route that it holds
  abbrev pub with_routes : List ℕ → List (ListEntry Route)
  with_routes = map (λ (j : ℕ). record { id = j; route = ℒ j })

-- The boxes of a trail, or a finding with its number, box, route and count.
pub data Shown (R : Type 0) : Type 0 where
  trail : List (ListEntry R) → Shown R
  fails : (number node : ℕ) → R → (count : ℕ) → Shown R

-- what is shown after a verdict
abbrev pub shown_after : {R : Type 0} → Verdict R → List (ListEntry R) → Shown R
shown_after (pass count) boxes = trail boxes
shown_after (found number node route count) boxes = fails number node route count

module _ (𝓐 : Algebra) (N : NetworkOver 𝓐) (L : RouteList 𝓐.Route) (i : ℕ) where
  -- what is refused after judging: there is no such own box
  abbrev pub named_table : {A : Type 0} → List (Bool × Answer A)
  named_table = (not (owns N i), refused 18 i) ∷ []

  unfoldable pub showing : Verdict 𝓐.Route → Answer (Shown 𝓐.Route)
  showing verdict = first_applying named_table (given (shown_after verdict (with_routes 𝓐 N (mapping 𝓐 N L) (i ∷ trail_behind 𝓐 N (mapping 𝓐 N L) i))))

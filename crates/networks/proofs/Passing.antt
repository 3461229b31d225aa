-- Demand 2, of the judge: a list passes exactly where every own box has an entry, equations 6 to 8 hold of what it maps each box to,
-- and every demand is met. Otherwise the first fault by rising id is named, and the count is of the own boxes up to it.
use mathlib.Core.Path.{◌≡◌, ◌∙◌}
use mathlib.Core.Logic.{◌↔◌}
use mathlib.Core.Option.{none, some}
use Prim.Native.Nat.{ℕ, ◌<◌}
use native.Mathlib.Nat.{zero-add}
use lib.ListN.{length}
use Rattle.lists.specs.All.{All}
use Rattle.networks.specs.Algebra.{Algebra}
use Rattle.networks.specs.Network.{Own, own, NetworkOver, own_boxes, box}
use Rattle.networks.specs.Sound.{Bounds, Sound}
use Rattle.networks.specs.Sheets.{RouteList, listed}
use Rattle.lists.specs.Answer.{given}
use Rattle.networks.specs.Lowest.{Entered}
use Rattle.networks.specs.Solution.{mapping, Solution, Demands}
use Rattle.networks.specs.Judge.{pass, found, fault, judge, Passes, up_to}
use Rattle.networks.proofs.Laws.Boxes.{own_rise}
use Rattle.networks.proofs.Laws.Named.{named_box}
use Rattle.networks.proofs.Laws.Judging.{pass_verdict, FirstFault, verdict_found, judge_given, passes_solved}

module _ (𝓐 : Algebra) (B : Bounds) (N : NetworkOver 𝓐) (L : RouteList 𝓐.Route) (sound : Sound B N) where
  open 𝓐 use {Route, Demand}

  pub passing : Passes 𝓐 N L ↔ (Entered N (listed L) × Solution 𝓐 N (mapping 𝓐 N L) × Demands 𝓐 N (mapping 𝓐 N L))
  passing = passes_solved 𝓐 N L sound.boxes_rise

  -- on a pass all own boxes are judged
  pub pass_count : (count : ℕ) → judge 𝓐 N L ≡ given (pass count) → count ≡ length (own_boxes N)
  pass_count count e = (pass_verdict 𝓐 N L 0 count (own_boxes N) (judge_given 𝓐 N L (pass count) e).1).1 ∙ zero-add (length (own_boxes N))

  module _ (number node count : ℕ) (route : Route) (e : judge 𝓐 N L ≡ given (found number node route count)) where
    first : FirstFault 𝓐 N L number route node 0 (own_boxes N) × (count ≡ up_to N node)
    first =
        let g = judge_given 𝓐 N L (found number node route count) e in
        let f = verdict_found 𝓐 N L number node route 0 count 0 (own_boxes N) (own_rise N sound.boxes_rise) g.1 in
        (f.0, f.1 ∙ zero-add (up_to N node))

    -- a finding is the first one at an own box, and no own box with a lower id has any
    pub finding : (b : Own Route Demand) × (box N node ≡ some (own b)) × (fault 𝓐 N L b ≡ some (record { number = number; route = route }))
        × All (λ (d : Own Route Demand). d.id < node → fault 𝓐 N L d ≡ none) (own_boxes N)
    finding =
        let f = first.0 in
        (f.named, named_box N sound.boxes_rise node 0 f, f.hit, f.below)

    -- its count is of the own boxes with an id up to the named one
    pub found_count : count ≡ up_to N node
    found_count = first.1

-- What the refusals of a join leave where they do not apply, and how 22 is looked for.
use Rattle.std.specs.Prelude.{ℕ, true, cond, List, ◌≡◌, ltb}
use Rattle.std.proofs.Math.Option.{none}
use Rattle.lists.specs.All.{all_alike}
use Rattle.lists.specs.First.{first_bad}
use Rattle.routes.specs.Alike.{same_policy}
use Rattle.routes.specs.Carry.{highest}
use Rattle.routes.specs.declared.Demand.{Demand}
use Rattle.routes.specs.declared.Route.{Route}
use Rattle.networks.specs.Join.{lower_of, unmatched}
use Rattle.networks.specs.Lowest.{lowest}
use Rattle.networks.specs.Network.{Own, own_boxes, owns}
use Rattle.layout.specs.Layout.{node_count}
use Rattle.layout.specs.declared.Form.{Form}
use Rattle.matching.specs.Rows.{row_matched}
use Rattle.merging.specs.Front.{front_id}
use Rattle.reading.specs.House.{house}
use Rattle.reading.specs.Whole.{read_network}

module _ (f : Form) (first second : List ℕ) where
  -- no box is owned by both: 21 does not apply
  unfoldable pub Apart : Type 0
  Apart = lowest (λ (b : Own Route Demand). owns (read_network f second) b.id) (own_boxes (read_network f first)) ≡ none

  -- every assumption finds its equal: 22 does not apply
  unfoldable pub Matched : Type 0
  Matched = lower_of (unmatched (house highest) (read_network f first) (read_network f second)) (unmatched (house highest) (read_network f second) (read_network f first)) ≡ none

  -- the policies are the same: 23 does not apply
  unfoldable pub OneTable : Type 0
  OneTable = all_alike same_policy (read_network f first).policies (read_network f second).policies ≡ true

-- the id of the first row of a that b does not match, or a number above all ids
abbrev pub unmatched_id : Form → List ℕ → List ℕ → ℕ
unmatched_id f a b = front_id f a (first_bad (row_matched f a b) (node_count a))

-- the lower of the two
unfoldable pub lowest_unmatched : Form → List ℕ → List ℕ → ℕ
lowest_unmatched f first second = cond (ltb (unmatched_id f second first) (unmatched_id f first second)) (unmatched_id f second first) (unmatched_id f first second)

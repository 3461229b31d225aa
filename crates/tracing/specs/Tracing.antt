-- Where a box's route started, by two records (document 02, K2): the refusals of judging, 18 where no own box has the id, and then the trail,
-- or the finding of a list that fails.
--     show_records, shown_at      the answer, and what it is where judging refuses nothing
--     mapping_in, supplier_in, sender_in     what a box holds, and the box that its route came from, by the records' form
--     sender_of                  the box that an answer names, if it names one
--     Passing                   the list passes in the network
use Rattle.std.specs.Prelude.{ℕ, List, ◌≡◌, Option, Some, None}
use Rattle.std.proofs.Math.Option.{none, some}
use Rattle.std.proofs.Math.Option as maybe
use Rattle.lists.specs.Answer.{Answer, given, and_then}
use Rattle.routes.specs.Carry.{highest}
use Rattle.routes.specs.declared.Route.{Route}
use Rattle.networks.specs.Judge.{pass}
use Rattle.networks.specs.Solution.{mapping}
use Rattle.networks.specs.Trail.{Shown, supplier, sender, showing}
use Rattle.layout.specs.declared.Form.{Form}
use Rattle.reading.specs.House.{house}
use Rattle.reading.specs.Whole.{read_network, read_list, network_of, list_of}
use Rattle.judging.specs.Judging.{judge_records, verdict_at}

unfoldable pub show_records : List ℕ → List ℕ → ℕ → Answer (Shown Route)
show_records network list id = and_then (judge_records network list) (showing (house highest) (network_of network) (list_of list) id)

module _ (f : Form) (network list : List ℕ) where
  -- the route that a box holds: an own box by the list, an input by assumption
  abbrev pub mapping_in : ℕ → Route
  mapping_in = mapping (house highest) (read_network f network) (read_list f list)

  -- the lowest sender that supplies it, and the box that the trail goes back to
  abbrev pub supplier_in : ℕ → maybe.Option ℕ
  supplier_in = supplier (house highest) (read_network f network) mapping_in

  abbrev pub sender_in : ℕ → maybe.Option ℕ
  sender_in = sender (house highest) (read_network f network) mapping_in

  -- what is shown of a box, where judging refuses nothing
  unfoldable pub shown_at : ℕ → Answer (Shown Route)
  shown_at id = and_then (verdict_at f network list) (showing (house highest) (read_network f network) (read_list f list) id)

  -- every own box holds its due route, keeps its promise and meets its demand
  unfoldable pub Passing : Type 0
  Passing = (count : ℕ) × (verdict_at f network list ≡ given (pass count))

abbrev pub sender_of : Option ℕ → maybe.Option ℕ
sender_of None = none
sender_of (Some id) = some id

-- Joining two records (document 02, K3): the first network's refusals, the second's, then 21 to 24 and the joint network of what they say, and
-- last the room.
use Rattle.std.specs.Prelude.{ℕ, List}
use Rattle.lists.specs.Answer.{Answer, and_then}
use Rattle.layout.specs.Form.{form_of}
use Rattle.layout.specs.declared.Form.{Form}
use Rattle.routes.specs.Carry.{highest}
use Rattle.networks.specs.Join.{join}
use Rattle.outcomes.specs.Room.{record_answer, laid_answer}
use Rattle.reading.specs.House.{house, house_telling}
use Rattle.reading.specs.Whole.{HouseNetwork, bounds, read_network, network_of}
use Rattle.records.specs.Network.{network_refusal}

-- The joint network of what two records of one form say. No law of routes is used in it but their equality, so that the highest cost does
-- not matter.
unfoldable pub join_said : Form → List ℕ → List ℕ → Answer HouseNetwork
join_said f first second = join (house highest) (house_telling highest) (bounds f) (read_network f first) (read_network f second)

unfoldable pub join_networks : List ℕ → List ℕ → Answer HouseNetwork
join_networks first second =
    and_then (network_refusal first) (λ (f : Form).
    and_then (network_refusal second) (λ (g : Form).
    join (house highest) (house_telling highest) (bounds (form_of first)) (network_of first) (network_of second)))

-- The joint network has the form of the first.
unfoldable pub join_records : List ℕ → List ℕ → ℕ → Answer ℕ
join_records first second room = record_answer (form_of first) room (join_networks first second)

unfoldable pub join_buffer : List ℕ → List ℕ → List ℕ → List ℕ
join_buffer first second out = laid_answer (form_of first) (join_networks first second) out

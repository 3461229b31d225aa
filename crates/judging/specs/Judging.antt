-- Judging two records (document 01, 'Judging'): the network's refusals, the list's, and then the judge's answer on what they say.
use Rattle.std.specs.Prelude.{ℕ, List}
use Rattle.routes.specs.declared.Route.{Route}
use Rattle.lists.specs.Answer.{Answer, given, and_then}
use Rattle.reading.specs.House.{house}
use Rattle.networks.specs.Judge.{Verdict, verdict_from, judge}
use Rattle.networks.specs.Network.{own_boxes}
use Rattle.entries.specs.Entries.{list_refusal}
use Rattle.records.specs.Network.{network_refusal}
use Rattle.reading.specs.Whole.{read_network, read_list, network_of, list_of}
use Rattle.layout.specs.declared.Form.{Form}
use Rattle.routes.specs.Carry.{highest}

unfoldable pub judge_records : List ℕ → List ℕ → Answer (Verdict Route)
judge_records network list =
    and_then (network_refusal network) (λ (f : Form).
    and_then (list_refusal list) (λ (g : Form).
    judge (house highest) (network_of network) (list_of list)))

-- the verdict on what two records say, where every own box has an entry
unfoldable pub verdict_at : Form → List ℕ → List ℕ → Answer (Verdict Route)
verdict_at f network list =
    given (verdict_from (house highest) (read_network f network) (read_list f list) 0 (own_boxes (read_network f network)))

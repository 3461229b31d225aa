-- The judged count of every answer (document 01, 'Judging').
use Rattle.std.specs.Prelude.{◌≡◌, List, ℕ, length}
use Rattle.lists.specs.Answer.{Answer, given, refused}
use Rattle.lists.specs.Bytes.{Bytes}
use Rattle.routes.specs.declared.Route.{Route}
use Rattle.networks.specs.Judge.{Verdict, pass, found, up_to, judged}
use Rattle.networks.specs.Network.{own_boxes}
use Rattle.reading.specs.Whole.{HouseNetwork, network_of}
use Rattle.judging.specs.Judging.{judge_records}

-- what it is to be: all own boxes on a pass, those with an id up to the named one on a finding, 0 on a refusal
abbrev pub count_of : HouseNetwork → Answer (Verdict Route) → ℕ
count_of N (given (pass count)) = length (own_boxes N)
count_of N (given (found number node route count)) = up_to N node
count_of N (refused number place) = 0

-- and what it is
abbrev pub JudgedCount : List ℕ → List ℕ → Type 0
JudgedCount network list = Bytes network → judged (judge_records network list) ≡ count_of (network_of network) (judge_records network list)

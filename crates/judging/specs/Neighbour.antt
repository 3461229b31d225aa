-- A neighbour's route, asked alone (document 01, 'Judging'): its bytes as they stand in the network or in the list, and an empty part
-- where judging would be refused or no node has the id. Whether the list passes is not looked at.
use Rattle.std.specs.Prelude.{ℕ, List, []}
use Rattle.lists.specs.Answer.{Answer, given, refused}
use Rattle.layout.specs.Form.{form_of}
use Rattle.preparing.specs.Parts.{named_part}
use Rattle.judging.specs.Judging.{judge_records}

-- empty where a call is refused
abbrev pub unless_refused : {A : Type 0} → Answer A → List ℕ → List ℕ
unless_refused (given x) part = part
unless_refused (refused number place) part = []

-- empty where judging would be refused
unfoldable pub neighbour_bytes : List ℕ → List ℕ → ℕ → List ℕ
neighbour_bytes network list id = unless_refused (judge_records network list) (named_part (form_of network) network list id)

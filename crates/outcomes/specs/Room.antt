-- A network that is to be laid down as a record in a lent buffer: number 20 is the last that is asked.
use Rattle.std.specs.Prelude.{ℕ, cond, List, leb, length}
use Rattle.lists.specs.Laid.{placed}
use Rattle.lists.specs.Answer.{Answer, given, refused, and_then}
use Rattle.layout.specs.declared.Form.{Form}
use Rattle.reading.specs.Whole.{HouseNetwork, write_network}

-- the length of a record, where there is room for it
abbrev pub in_room : ℕ → ℕ → Answer ℕ
in_room room size = cond (leb size room) (given size) (refused 20 size)

-- the length of a network's record, where the network is given and there is room
abbrev pub record_answer : Form → ℕ → Answer HouseNetwork → Answer ℕ
record_answer f room answer = and_then answer (λ (F : HouseNetwork). in_room room (length (write_network f F)))

-- What the lent buffer holds: the record over its start where it fits, and what it held before on every refusal.
abbrev pub laid_answer : Form → Answer HouseNetwork → List ℕ → List ℕ
laid_answer f (given F) out = placed (write_network f F) out
laid_answer f (refused number place) out = out

-- What a program writes where it was asked for a network: its record, or the line of a refusal. A program has room for every record, so that
-- 20 is no answer of its own.
--     record_output                     by the network that is given
--     outcome_length, outcome_placed     by the outcome of the call that laid it into the program's room
use Rattle.std.specs.Prelude.{ℕ, cond, List, eqb, length}
use Rattle.lists.specs.Laid.{placed}
use Rattle.lists.specs.Answer.{Answer, given, refused}
use Rattle.layout.specs.declared.Form.{Form}
use Rattle.reading.specs.Whole.{HouseNetwork, write_network}
use Rattle.lines.specs.Line.{refused_line}

unfoldable pub record_output : Form → Answer HouseNetwork → List ℕ
record_output f (given F) = write_network f F
record_output f (refused number place) = refused_line number place

-- the length of the record, also of one that had no room, or of the line of a refusal
unfoldable pub outcome_length : Answer ℕ → ℕ
outcome_length (given n) = n
outcome_length (refused number place) = cond (eqb number 20) place (length (refused_line number place))

-- the buffer with the line over its start, where there is one to write
unfoldable pub outcome_placed : Answer ℕ → List ℕ → List ℕ
outcome_placed (given n) out = out
outcome_placed (refused number place) out = cond (eqb number 20) out (placed (refused_line number place) out)

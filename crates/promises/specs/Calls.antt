-- The words of the statements.
--     house1                         the house's routes, with costs up to 65,535
--     Passes                         the judge's answer on two records is a pass
--     cut_into, join_into              the record that a cut, or a join, leaves in a lent buffer
--     Roomy, SheetCuts               a buffer with room for the largest record; a sheet that cuts a network
use Rattle.std.specs.Prelude.{◌≡◌, List, ◌⊎◌, ℕ, ◌≤◌, ◌<◌, length, take}
use Rattle.networks.specs.Algebra.{Algebra}
use Rattle.lists.specs.Answer.{Answer, given, refused, and_then}
use Rattle.reading.specs.House.{house}
use Rattle.networks.specs.Judge.{pass}
use Rattle.layout.specs.declared.Form.{Form}
use Rattle.reading.specs.Largest.{largest_network}
use Rattle.judging.specs.Judging.{judge_records}
use Rattle.routes.specs.Carry.{highest}
use Rattle.cutting.specs.Cutting.{cut_records, cut_buffer}
use Rattle.joining.specs.Joining.{join_records, join_buffer}

abbrev pub house1 : Algebra
house1 = house highest

abbrev pub Passes : List ℕ → List ℕ → Type 0
Passes network list = (count : ℕ) × (judge_records network list ≡ given (pass count))

-- As many bytes from the start of the buffer as the cut answers, or its refusal.
unfoldable pub cut_into : List ℕ → List ℕ → ℕ → List ℕ → Answer (List ℕ)
cut_into network sheet k out = and_then (cut_records network sheet k (length out)) (λ (n : ℕ). given (take n (cut_buffer network sheet k out)))

unfoldable pub join_into : List ℕ → List ℕ → List ℕ → Answer (List ℕ)
join_into first second out = and_then (join_records first second (length out)) (λ (n : ℕ). given (take n (join_buffer first second out)))

abbrev pub Roomy : Form → List ℕ → Type 0
Roomy f out = largest_network f ≤ length out

-- Cutting by the sheet can meet no refusal but 18 and 20, whatever fragment is asked, by a byte, and whatever the room.
abbrev pub SheetCuts : List ℕ → List ℕ → Type 0
SheetCuts network sheet = (k room number place : ℕ) → k < 256 → cut_records network sheet k room ≡ refused number place → (number ≡ 18) ⊎ (number ≡ 20)

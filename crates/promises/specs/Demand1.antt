-- Demand 1: every input is answered. Damaged bytes are refused by number and place, and a refusal leaves a lent buffer as it was.
-- That the functions take every input and return is their contracts' part: none has a `requires`.
use Rattle.std.specs.Prelude.{◌≡◌, Bool, List, [], ◌∷◌, ◌++◌, ℕ, ltb, length}
use Rattle.lists.specs.Answer.{Answer, given, refused}
use Rattle.lists.specs.Test.{first_applying}
use Rattle.networks.specs.Cut.{fragment, cut_table}
use Rattle.networks.specs.Join.{joining, join_table}
use Rattle.networks.specs.Judge.{verdict_from, judge_table}
use Rattle.networks.specs.Network.{own_boxes}
use Rattle.routes.specs.Carry.{highest}
use Rattle.layout.specs.Form.{form_of, list_lead, sheet_lead}
use Rattle.entries.specs.Entries.{entries_table}
use Rattle.records.specs.Network.{network_table}
use Rattle.reading.specs.House.{house_telling}
use Rattle.reading.specs.Whole.{bounds, write_network, network_of, sheet_of, list_of}
use Rattle.judging.specs.Judging.{judge_records}
use Rattle.cutting.specs.Cutting.{cut_records, cut_buffer}
use Rattle.joining.specs.Joining.{join_records, join_buffer}
use Rattle.promises.specs.Calls.{house1}

-- judging: 1 to 10, 11 to 16 of the list, 17
abbrev pub judging_table : List ℕ → List ℕ → {A : Type 0} → List (Bool × Answer A)
judging_table network list =
    network_table (form_of network) network ++ (entries_table (form_of list) list_lead list ++ judge_table house1 (network_of network) (list_of list))

-- cutting: 1 to 10, 11 to 16 of the sheet, 17 to 19
abbrev pub cutting_table : List ℕ → List ℕ → ℕ → {A : Type 0} → List (Bool × Answer A)
cutting_table network sheet k =
    network_table (form_of network) network ++ (entries_table (form_of sheet) sheet_lead sheet ++ cut_table house1 (network_of network) (sheet_of sheet) k)

-- joining: 1 to 10 of the first network, then of the second, each by its own offsets, then 21 to 24
abbrev pub joining_table : List ℕ → List ℕ → {A : Type 0} → List (Bool × Answer A)
joining_table first second = network_table (form_of first) first
    ++ (network_table (form_of second) second ++ join_table house1 (house_telling highest) (bounds (form_of first)) (network_of first) (network_of second))

-- the bytes of fragment k of what a network and a sheet say
abbrev pub fragment_record : List ℕ → List ℕ → ℕ → List ℕ
fragment_record network sheet k = write_network (form_of network) (fragment (network_of network) (sheet_of sheet) k)

-- the bytes of the joint network of what two records say, in the first's form
abbrev pub joint_record : List ℕ → List ℕ → List ℕ
joint_record first second = write_network (form_of first) (joining (network_of first) (network_of second))

-- The judge refuses by the first row that applies, and otherwise gives the verdict on all own boxes.
abbrev pub JudgeRefuses : List ℕ → List ℕ → Type 0
JudgeRefuses network list = judge_records network list ≡ first_applying (judging_table network list)
    (given (verdict_from house1 (network_of network) (list_of list) 0 (own_boxes (network_of network))))

-- So does the cutter, with 20 as its last row, and otherwise gives the length of the fragment's record.
abbrev pub CutRefuses : List ℕ → List ℕ → ℕ → ℕ → Type 0
CutRefuses network sheet k room = cut_records network sheet k room ≡ first_applying
    (cutting_table network sheet k ++ ((ltb room (length (fragment_record network sheet k)), refused 20 (length (fragment_record network sheet k))) ∷ []))
    (given (length (fragment_record network sheet k)))

-- And so does the joiner, with 20 as its last row, and otherwise gives the length of the joint network's record.
abbrev pub JoinRefuses : List ℕ → List ℕ → ℕ → Type 0
JoinRefuses first second room = join_records first second room ≡ first_applying
    (joining_table first second ++ ((ltb room (length (joint_record first second)), refused 20 (length (joint_record first second))) ∷ []))
    (given (length (joint_record first second)))

-- A refused cut leaves the buffer as it was, and so does a refused join.
abbrev pub RefusalKeeps : List ℕ → List ℕ → ℕ → List ℕ → Type 0
RefusalKeeps network sheet k out = (number place : ℕ) → cut_records network sheet k (length out) ≡ refused number place → cut_buffer network sheet k out ≡ out

abbrev pub JoinKeeps : List ℕ → List ℕ → List ℕ → Type 0
JoinKeeps first second out = (number place : ℕ) → join_records first second (length out) ≡ refused number place → join_buffer first second out ≡ out

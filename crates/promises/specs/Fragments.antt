-- The fragments of one cut, together: what the records that cuts leave in buffers have to do with each other and with the network.
--     CutOut, FragmentsCover      they cover the network, and across each cut edge one promises what another assumes
--     judged_in, CountsAddUp       where a list passes in all of them, their judged counts add up to the whole's
--     CutAgain                    cut again by the same sheet, each is itself
use Rattle.std.specs.Prelude.{◌≡◌, List, ℕ, ◌≤◌, ◌<◌, length}
use Rattle.lists.specs.Bytes.{Bytes}
use Rattle.lists.specs.Answer.{given, and_then}
use Rattle.networks.specs.Counts.{sum}
use Rattle.networks.specs.Covering.{Covering}
use Rattle.networks.specs.Judge.{pass, judged}
use Rattle.networks.specs.Lowest.{Entered}
use Rattle.networks.specs.Sheets.{listed}
use Rattle.layout.specs.Form.{form_of, list_lead}
use Rattle.entries.specs.Entries.{WellFormed}
use Rattle.reading.specs.Whole.{HouseNetwork, network_of, sheet_of, list_of}
use Rattle.judging.specs.Judging.{judge_records}
use Rattle.promises.specs.Calls.{Passes, cut_into, Roomy, SheetCuts}

-- F is what the record says that is cut out for fragment k.
abbrev pub CutOut : List ℕ → List ℕ → ℕ → HouseNetwork → Type 0
CutOut network sheet k F = (out left : List ℕ) × (k < 256) × (cut_into network sheet k out ≡ given left) × (network_of left ≡ F)

-- Every own box and every edge of the network is in exactly one of them, every input in some; an input that is none of the network's is an
-- own box of another one, and what the one assumes of it the other promises: its note.
abbrev pub FragmentsCover : List ℕ → List ℕ → Type 0
FragmentsCover network sheet = Bytes network → Bytes sheet → SheetCuts network sheet → Covering (network_of network) (sheet_of sheet) (CutOut network sheet)

-- how many own boxes of fragment k are judged, when it is cut into a buffer and its record judged; none where it is refused
abbrev pub judged_in : List ℕ → List ℕ → List ℕ → (ℕ → List ℕ) → ℕ → ℕ
judged_in network sheet list out k = judged (and_then (cut_into network sheet k (out k)) (λ (F : List ℕ). judge_records F list))

-- A list that passes in every fragment passes in the whole, with the counts of fragments 0 to 63 added up.
abbrev pub CountsAddUp : List ℕ → List ℕ → List ℕ → Type 0
CountsAddUp network sheet list = Bytes network → Bytes sheet → SheetCuts network sheet → WellFormed list_lead list
    → Entered (network_of network) (listed (list_of list))
    → (out : ℕ → List ℕ) → ((k : ℕ) → Roomy (form_of network) (out k))
    → ((k : ℕ) (F : List ℕ) → k < 256 → cut_into network sheet k (out k) ≡ given F → Passes F list)
    → judge_records network list ≡ given (pass (sum (judged_in network sheet list out) 64))

-- Cutting fragment k out of a record that was left for fragment k, into a buffer with room for it, leaves the same bytes.
abbrev pub CutAgain : List ℕ → List ℕ → ℕ → Type 0
CutAgain network sheet k = Bytes network → Bytes sheet → (out again F : List ℕ)
    → cut_into network sheet k out ≡ given F → length F ≤ length again → cut_into F sheet k again ≡ given F

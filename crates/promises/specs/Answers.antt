-- The demands once more, about what the functions return: the statements hold of every suite, so of the code.
--     Passed, cut_out, cut_out_twice      a pass; the record that a cut leaves, and that one cut leaves of another's
--     KeepsBuffer                      demand 1
--     ReturnsPass .. LaysFragment      demand 2
--     CutsAlike .. ApartReturns        demand 3
--     SameVerdict, SameRecord          lists and sheets that agree
use Rattle.std.specs.Prelude.{◌≡◌, true, List, ◌++◌, ◌↔◌, ◌⊎◌, ℕ, ◌≤◌, ◌<◌, length, take, drop, Err, Ok, Result}
use Rattle.std.proofs.Math.Option.{none, some}
use Rattle.lists.specs.All.{All}
use Rattle.lists.specs.Answer.{Answer, given, refused, and_then, NoneApplies}
use Rattle.lists.specs.Bytes.{Bytes}
use Rattle.routes.specs.declared.Demand.{Demand}
use Rattle.routes.specs.declared.Route.{Route}
use Rattle.networks.specs.Cut.{Agrees}
use Rattle.networks.specs.Judge.{found, fault, judged}
use Rattle.networks.specs.Lowest.{LowestOwn, Entered}
use Rattle.networks.specs.Network.{Own, own, own_boxes, box, owns}
use Rattle.networks.specs.Sheets.{number, listed}
use Rattle.networks.specs.Solution.{mapping, Solution, Demands}
use Rattle.layout.specs.Form.{form_of, list_lead, sheet_lead}
use Rattle.layout.specs.declared.Class.TheVariants.{NoEntry, NoSuchOwn, NoRoom}
use Rattle.layout.specs.declared.Refusal.{Refusal}
use Rattle.entries.specs.Entries.{WellFormed}
use Rattle.records.specs.Network.{SoundRecord}
use Rattle.reading.specs.Whole.{HouseNetwork, HouseList, network_of, sheet_of, list_of}
use Rattle.judging.specs.Answers as judging
use Rattle.judging.specs.declared.Verdict.{Verdict}
use Rattle.judging.specs.declared.Verdict.TheVariants as verdict
use Rattle.outcomes.specs.Outcomes.{outcome_of}
use Rattle.promises.specs.Calls.{house1, Roomy, SheetCuts}
use Rattle.promises.specs.Demand1.{cutting_table, fragment_record}
use Rattle.promises.specs.Demand3.{Refined, apart_place}
use Rattle.promises.specs.JudgedCount.{count_of}
use Rattle.promises.specs.SameAnswer.{ListsAgree, SheetsAgree}
use Rattle.promises.specs.Suite.{Suite}

abbrev pub Passed : Verdict → Type 0
Passed v = (count : ℕ) × (v ≡ verdict.Pass count)

module _ (s : Suite) where
  -- As many bytes from the start of the buffer as the cut answers, or its refusal.
  abbrev pub cut_out : List ℕ → List ℕ → ℕ → List ℕ → Answer (List ℕ)
  cut_out network sheet k out = and_then (outcome_of (s.cut network sheet k out)) (λ (n : ℕ). given (take n (s.after network sheet k out)))

  -- one cut upon another's record
  abbrev pub cut_out_twice : List ℕ → List ℕ → ℕ → List ℕ → List ℕ → ℕ → List ℕ → Answer (List ℕ)
  cut_out_twice network first x out second y out' = and_then (cut_out network first x out) (λ (F : List ℕ). cut_out F second y out')

  module _ (network list : List ℕ) where
    abbrev N : HouseNetwork
    N = network_of network

    abbrev L : HouseList
    L = list_of list

    abbrev v : Verdict
    v = s.judge network list

    -- Demand 2: a proposal passes exactly where both records are in order, every own box has an entry, equations 6 to 8 hold of what it
    -- says, and every demand is met.
    abbrev pub ReturnsPass : Type 0
    ReturnsPass = Bytes network → Bytes list → Passed v ↔ (SoundRecord network × WellFormed list_lead list
        × Entered N (listed L) × Solution house1 N (mapping house1 N L) × Demands house1 N (mapping house1 N L))

    -- A finding is the first one at an own box, and no own box with a lower id has any.
    abbrev pub ReturnsFirst : Type 0
    ReturnsFirst = Bytes network → Bytes list → (number node count : ℕ) (route : Route) → judging.answer_of v ≡ given (found number node route count)
        → ((b : Own Route Demand) × (box N node ≡ some (own b)) × (fault house1 N L b ≡ some (record { number = number; route = route })))
        × All (λ (d : Own Route Demand). d.id < node → fault house1 N L d ≡ none) (own_boxes N)

    -- The judged count of every verdict is of all own boxes on a pass, of those up to the named one on a finding, and 0 on a refusal.
    abbrev pub ReturnsCount : Type 0
    ReturnsCount = Bytes network → Bytes list → judged (judging.answer_of v) ≡ count_of N (judging.answer_of v)

    -- A box without an entry is never judged: the call is refused for want of an entry, at the lowest such box.
    abbrev pub AsksEntry : Type 0
    AsksEntry = Bytes network → Bytes list → SoundRecord network → WellFormed list_lead list → (w : ℕ) → owns N w ≡ true → listed L w ≡ none
        → (place : ℕ) × (v ≡ verdict.Refused (record { class = NoEntry; place = place }))
        × LowestOwn N (λ (b : Own Route Demand). listed L b.id ≡ none) place

  module _ (network sheet : List ℕ) where
    module _ (k : ℕ) (out : List ℕ) where
      abbrev F : List ℕ
      F = fragment_record network sheet k

      abbrev c : Result ℕ Refusal
      c = s.cut network sheet k out

      -- Demand 1: a refusal leaves the buffer as it was.
      abbrev pub KeepsBuffer : Type 0
      KeepsBuffer = Bytes network → Bytes sheet → k < 256 → Bytes out → (r : Refusal) → c ≡ Err r → s.after network sheet k out ≡ out

      -- Demand 2: where none of 1 to 19 applies, a buffer with room gets the fragment's record, with the bytes behind it as they were, and
      -- the answer is its length. A shorter one stays as it was, and the answer is the length needed.
      abbrev pub LaysFragment : Type 0
      LaysFragment = Bytes network → Bytes sheet → k < 256 → Bytes out → NoneApplies (cutting_table network sheet k {A = ℕ})
          → (length F ≤ length out → (c ≡ Ok (length F)) × (s.after network sheet k out ≡ F ++ drop (length F) out))
          × (length out < length F → (c ≡ Err (record { class = NoRoom; place = length F })) × (s.after network sheet k out ≡ out))

    -- A sheet cuts a network where the cutter refuses by it for want of the fragment or of room alone.
    abbrev pub CutsAlike : Type 0
    CutsAlike = Bytes network → Bytes sheet → ((k : ℕ) (out : List ℕ) (r : Refusal) → k < 256 → Bytes out → s.cut network sheet k out ≡ Err r
        → (r.class ≡ NoSuchOwn) ⊎ (r.class ≡ NoRoom)) ↔ SheetCuts network sheet

    -- Demand 3, fragments and whole: the list passes in every fragment that the cutter gives exactly where it passes in the whole and has the
    -- note at each box that a cut wire leaves.
    abbrev pub PartsAndWhole : List ℕ → Type 0
    PartsAndWhole list = Bytes network → Bytes sheet → Bytes list → SheetCuts network sheet → WellFormed list_lead list
        → Entered (network_of network) (listed (list_of list))
        → ((k : ℕ) (out F : List ℕ) → k < 256 → Bytes out → Roomy (form_of network) out → cut_out network sheet k out ≡ given F → Passed (s.judge F list))
        ↔ (Passed (s.judge network list) × Agrees (network_of network) (sheet_of sheet) (listed (list_of list)))

  module _ (network X Y Z : List ℕ) where
    -- Demand 3, two sheets and a third: cutting twice, in either order, leaves the bytes that cutting by the third leaves.
    abbrev pub TwiceIsOnce : Type 0
    TwiceIsOnce = Refined network X Y Z → (w : ℕ) → owns (network_of network) w ≡ true
        → (o₁ o₂ o₃ : List ℕ) → Bytes o₁ → Bytes o₂ → Bytes o₃ → Roomy (form_of network) o₁ → Roomy (form_of network) o₂ → Roomy (form_of network) o₃
        → (cut_out_twice network X (number (sheet_of X) w) o₁ Y (number (sheet_of Y) w) o₂ ≡ cut_out network Z (number (sheet_of Z) w) o₃)
        × (cut_out_twice network Y (number (sheet_of Y) w) o₁ X (number (sheet_of X) w) o₂ ≡ cut_out network Z (number (sheet_of Z) w) o₃)
        × ((n : ℕ) × (s.cut network Z (number (sheet_of Z) w) o₃ ≡ Ok n))

    -- Where no own box is in both fragments, both orders are refused with 18.
    abbrev pub ApartReturns : Type 0
    ApartReturns = Refined network X Y Z → (x y : ℕ) → x < 256 → y < 256
        → ((w : ℕ) → owns (network_of network) w ≡ true → number (sheet_of X) w ≡ x → number (sheet_of Y) w ≡ y → ⊥)
        → (o₁ o₂ : List ℕ) → Bytes o₁ → Bytes o₂ → Roomy (form_of network) o₁ → Roomy (form_of network) o₂
        → (cut_out_twice network X x o₁ Y y o₂ ≡ refused 18 (apart_place (network_of network) (sheet_of X) x y))
        × (cut_out_twice network Y y o₁ X x o₂ ≡ refused 18 (apart_place (network_of network) (sheet_of Y) y x))

  -- Lists that agree on a network's own boxes get the same verdict.
  abbrev pub SameVerdict : List ℕ → List ℕ → List ℕ → Type 0
  SameVerdict network list other = Bytes network → Bytes list → Bytes other → WellFormed list_lead list → WellFormed list_lead other
      → ListsAgree (network_of network) (list_of list) (list_of other) → s.judge network list ≡ s.judge network other

  -- Sheets that agree on them get the same answer and the same bytes in the buffer.
  abbrev pub SameRecord : List ℕ → List ℕ → List ℕ → Type 0
  SameRecord network sheet other = Bytes network → Bytes sheet → Bytes other → WellFormed sheet_lead sheet → WellFormed sheet_lead other
      → SheetsAgree (network_of network) (sheet_of sheet) (sheet_of other) → (k : ℕ) (out : List ℕ) → k < 256 → Bytes out
      → (s.cut network sheet k out ≡ s.cut network other k out) × (s.after network sheet k out ≡ s.after network other k out)

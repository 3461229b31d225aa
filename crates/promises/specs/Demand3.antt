-- Demand 3: cutting keeps its own algebra. All of it is about bytes, and buffers hold what they hold, with room for the largest record.
-- Its two statements about the fragments of one cut, joined again (document 02, K3), are in Reunion.
use Rattle.std.specs.Prelude.{◌≡◌, true, cond, List, ◌↔◌, ℕ, ◌<◌}
use Rattle.lists.specs.All.{any}
use Rattle.lists.specs.Bytes.{Bytes}
use Rattle.lists.specs.Answer.{Answer, given, refused, and_then}
use Rattle.networks.specs.Lowest.{Entered}
use Rattle.networks.specs.Cut.{numbered, Agrees, Third}
use Rattle.networks.specs.Network.{own_boxes, owns}
use Rattle.networks.specs.Sheets.{number, listed}
use Rattle.layout.specs.Form.{form_of, list_lead, sheet_lead}
use Rattle.entries.specs.Entries.{WellFormed}
use Rattle.reading.specs.Whole.{HouseNetwork, HouseSheet, network_of, sheet_of, list_of}
use Rattle.promises.specs.Calls.{Passes, cut_into, Roomy, SheetCuts}

-- For a sound network, a well-formed list with an entry for every own box, and a sheet that cuts the network (so that neither of those two
-- records is refused): the list passes in every fragment that the cutter gives exactly where it passes in the whole and has the note at each
-- box that a cut wire leaves.
abbrev pub FragmentsAndWhole : List ℕ → List ℕ → List ℕ → Type 0
FragmentsAndWhole network sheet list = Bytes network → Bytes sheet → SheetCuts network sheet → WellFormed list_lead list → Entered (network_of network) (listed (list_of list))
    → ((k : ℕ) (out F : List ℕ) → k < 256 → Roomy (form_of network) out → cut_into network sheet k out ≡ given F → Passes F list)
    ↔ (Passes network list × Agrees (network_of network) (sheet_of sheet) (listed (list_of list)))

-- one cut upon another's record
abbrev pub cut_twice : List ℕ → List ℕ → ℕ → List ℕ → List ℕ → ℕ → List ℕ → Answer (List ℕ)
cut_twice network first x out second y out' = and_then (cut_into network first x out) (λ (F : List ℕ). cut_into F second y out')

-- Two well-formed sheets with the same boxes and notes, and a third that keeps two boxes together exactly where both do and that cuts the
-- network.
pub record Refined (network X Y Z : List ℕ) : Type 0 where
  pub bytes : Bytes network × Bytes X × Bytes Y × Bytes Z
  pub first_formed : WellFormed sheet_lead X
  pub second_formed : WellFormed sheet_lead Y
  pub third : Third (sheet_of X) (sheet_of Y) (sheet_of Z)
  pub cuts : SheetCuts network Z

-- For every own box: cutting out its fragment by the first and then by the second, or by the second and then by the first, leaves the
-- bytes that cutting by the third leaves; and these are a record, not a refusal.
abbrev pub CommonRefinement : List ℕ → List ℕ → List ℕ → List ℕ → Type 0
CommonRefinement network X Y Z = Refined network X Y Z → (w : ℕ) → owns (network_of network) w ≡ true
    → (o₁ o₂ o₃ : List ℕ) → Roomy (form_of network) o₁ → Roomy (form_of network) o₂ → Roomy (form_of network) o₃
    → (cut_twice network X (number (sheet_of X) w) o₁ Y (number (sheet_of Y) w) o₂ ≡ cut_into network Z (number (sheet_of Z) w) o₃)
    × (cut_twice network Y (number (sheet_of Y) w) o₁ X (number (sheet_of X) w) o₂ ≡ cut_into network Z (number (sheet_of Z) w) o₃)
    × ((F : List ℕ) × (cut_into network Z (number (sheet_of Z) w) o₃ ≡ given F))

-- the place of refusal 18 where no own box is in both fragments: the number of the first cut where no own box has it, so that this one is
-- refused, and otherwise the number of the second
abbrev pub apart_place : HouseNetwork → HouseSheet → ℕ → ℕ → ℕ
apart_place N S first second = cond (any (numbered N S first) (own_boxes N)) second first

-- Where no own box is in both fragments, cutting by the first and then by the second is refused with 18, and so is cutting by the second and
-- then by the first.
abbrev pub ApartRefused : List ℕ → List ℕ → List ℕ → List ℕ → Type 0
ApartRefused network X Y Z = Refined network X Y Z → (x y : ℕ)
    → ((w : ℕ) → owns (network_of network) w ≡ true → number (sheet_of X) w ≡ x → number (sheet_of Y) w ≡ y → ⊥)
    → (o₁ o₂ : List ℕ) → Roomy (form_of network) o₁ → Roomy (form_of network) o₂
    → (cut_twice network X x o₁ Y y o₂ ≡ refused 18 (apart_place (network_of network) (sheet_of X) x y))
    × (cut_twice network Y y o₁ X x o₂ ≡ refused 18 (apart_place (network_of network) (sheet_of Y) y x))

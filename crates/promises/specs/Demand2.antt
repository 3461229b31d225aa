-- Demand 2: what passes is exactly what should pass, and what is cut is exactly the fragment.
-- The definitions that are named stand in networks/specs, by document 000's equations and document 01's words.
use Rattle.std.specs.Prelude.{◌≡◌, true, List, ◌++◌, ◌↔◌, ℕ, ◌≤◌, ◌<◌, length, drop}
use Rattle.std.proofs.Math.Option.{none, some}
use Rattle.lists.specs.All.{All}
use Rattle.lists.specs.Bytes.{Bytes}
use Rattle.routes.specs.declared.Demand.{Demand}
use Rattle.routes.specs.declared.Route.{Route}
use Rattle.lists.specs.Answer.{given, refused, NoneApplies}
use Rattle.networks.specs.Lowest.{LowestOwn, Entered}
use Rattle.networks.specs.Cut.{fragment}
use Rattle.networks.specs.Judge.{pass, found, fault, up_to}
use Rattle.networks.specs.Network.{Own, own, own_boxes, box, owns}
use Rattle.networks.specs.Paper.{AgreesWithPaper}
use Rattle.networks.specs.Sheets.{number, listed}
use Rattle.networks.specs.Solution.{mapping, Solution, Demands}
use Rattle.entries.specs.Entries.{WellFormed}
use Rattle.records.specs.Network.{SoundRecord}
use Rattle.layout.specs.Form.{form_of, list_lead}
use Rattle.reading.specs.Largest.{largest_network}
use Rattle.reading.specs.Whole.{HouseNetwork, HouseList, network_of, sheet_of, list_of}
use Rattle.judging.specs.Judging.{judge_records}
use Rattle.cutting.specs.Cutting.{cut_records, cut_buffer}
use Rattle.promises.specs.Calls.{house1, Passes, cut_into}
use Rattle.promises.specs.Demand1.{cutting_table, fragment_record}

module _ (network list : List ℕ) where
  abbrev N : HouseNetwork
  N = network_of network

  abbrev L : HouseList
  L = list_of list

  -- A proposal passes exactly where both records are in order, every own box has an entry, equations 6 to 8 hold of what it says, and
  -- every demand is met.
  abbrev pub PassesExactly : Type 0
  PassesExactly = Bytes network → Passes network list ↔ (SoundRecord network × WellFormed list_lead list
      × Entered N (listed L) × Solution house1 N (mapping house1 N L) × Demands house1 N (mapping house1 N L))

  -- On a pass all own boxes are judged.
  abbrev pub PassCounts : Type 0
  PassCounts = Bytes network → (count : ℕ) → judge_records network list ≡ given (pass count) → count ≡ length (own_boxes N)

  -- A finding is the first one at an own box, no own box with a lower id has any, and the count is of the own boxes up to it.
  abbrev pub FindsFirst : Type 0
  FindsFirst = Bytes network → (number node count : ℕ) (route : Route) → judge_records network list ≡ given (found number node route count)
      → ((b : Own Route Demand) × (box N node ≡ some (own b)) × (fault house1 N L b ≡ some (record { number = number; route = route })))
      × All (λ (d : Own Route Demand). d.id < node → fault house1 N L d ≡ none) (own_boxes N) × (count ≡ up_to N node)

  -- A box without an entry is never judged: the call is refused with 17 and the lowest such box.
  abbrev pub EntryAsked : Type 0
  EntryAsked = Bytes network → SoundRecord network → WellFormed list_lead list → (w : ℕ) → owns N w ≡ true → listed L w ≡ none
      → (place : ℕ) × (judge_records network list ≡ refused 17 place) × LowestOwn N (λ (b : Own Route Demand). listed L b.id ≡ none) place

module _ (network sheet : List ℕ) (k : ℕ) where
  abbrev F : List ℕ
  F = fragment_record network sheet k

  -- Where none of 1 to 19 applies, a buffer with room gets the fragment's record, with the bytes behind it as they were, and the answer is
  -- its length. A shorter one stays as it was, and the answer is 20 with the length needed.
  abbrev pub CutsFragment : List ℕ → Type 0
  CutsFragment out = NoneApplies (cutting_table network sheet k {A = ℕ})
      → (length F ≤ length out → (cut_records network sheet k (length out) ≡ given (length F)) × (cut_buffer network sheet k out ≡ F ++ drop (length F) out))
      × (length out < length F → (cut_records network sheet k (length out) ≡ refused 20 (length F)) × (cut_buffer network sheet k out ≡ out))

  -- The record is a sound one that says the fragment, so that it can be judged and cut again; it is no longer than the network's.
  abbrev pub RecordSound : Type 0
  RecordSound = Bytes network → Bytes sheet → NoneApplies (cutting_table network sheet k {A = ℕ})
      → SoundRecord F × Bytes F × (network_of F ≡ fragment (network_of network) (sheet_of sheet) k)
      × (length F ≤ length network) × (length F ≤ largest_network (form_of network))

  -- What a record that a cut leaves in a buffer says is document 000's fragment, point by point, less the edges that lead into inputs.
  abbrev pub PaperFragment : Type 0
  PaperFragment = Bytes network → Bytes sheet → (out left : List ℕ) → cut_into network sheet k out ≡ given left
      → AgreesWithPaper house1 (network_of network) (sheet_of sheet) k (network_of left)

  -- With all own boxes in one fragment, it is the network's own bytes.
  abbrev pub OneFragment : Type 0
  OneFragment = Bytes network → SoundRecord network
      → All (λ (b : Own Route Demand). number (sheet_of sheet) b.id ≡ k) (own_boxes (network_of network)) → F ≡ network

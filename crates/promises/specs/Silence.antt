-- What a pass carried, on bytes: of the judge's passes, and of the census of what two records say. The judge does not look at it.
--     census_in                                      the census of the record that is cut out for a fragment
--     SilencePasses, SilenceWritten, EmptyPass      a list that holds no route anywhere passes exactly where nothing asks for one
--     QuietCounts, CountsQuiet                      and what a census says of that
--     AskedHold, NoneSilent, Accounted              whose silence a pass can have
--     SilentPart, CensusAddsUp                      fragments and whole
use Rattle.std.specs.Prelude.{◌≡◌, true, false, List, ◌↔◌, ℕ, ◌+◌, ◌≤◌, eqb, length}
use Rattle.lists.specs.All.{All}
use Rattle.lists.specs.Answer.{given, and_then}
use Rattle.lists.specs.Bytes.{Bytes}
use Rattle.lists.specs.Filter.{filter}
use Rattle.routes.specs.declared.Demand.{Demand}
use Rattle.routes.specs.declared.Route.{Route}
use Rattle.routes.specs.declared.Route.TheVariants.{None}
use Rattle.networks.specs.Network.{Own, own_boxes}
use Rattle.networks.specs.Sheets.{number}
use Rattle.networks.specs.Silence.{Census, taken, AddsUp, silent, told, Empty, ListsNone, silent_list, Quiet}
use Rattle.layout.specs.Form.{form_of, list_lead}
use Rattle.entries.specs.Entries.{WellFormed}
use Rattle.records.specs.Network.{SoundRecord}
use Rattle.reading.specs.Asking.{asks_route, house_asking}
use Rattle.reading.specs.Whole.{HouseNetwork, HouseList, network_of, sheet_of, list_of, write_list}
use Rattle.counting.specs.Text.{census_of}
use Rattle.promises.specs.Calls.{house1, Passes, cut_into, Roomy, SheetCuts}

-- that of fragment k, when it is cut into a buffer; of nobody where it is refused
abbrev pub census_in : List ℕ → List ℕ → List ℕ → (ℕ → List ℕ) → ℕ → Census
census_in network sheet list out k = taken (and_then (cut_into network sheet k (out k)) (λ (F : List ℕ). given (census_of F list)))

-- The network is one in which silence passes.
abbrev pub QuietRecord : List ℕ → Type 0
QuietRecord network = Quiet house1 (network_of network) house_asking

module _ (network list : List ℕ) where
  abbrev N : HouseNetwork
  N = network_of network

  abbrev L : HouseList
  L = list_of list

  -- A list that has no route for every own box passes exactly where no own box starts with a route, every assumed route is eaten on every
  -- wire out of its input, no promise is of a route and no demand is for one.
  abbrev pub SilencePasses : Type 0
  SilencePasses = Bytes network → SoundRecord network → WellFormed list_lead list → ListsNone house1 N L → Passes network list ↔ QuietRecord network

  -- A pass is empty exactly where its census counts no box that holds a route; and it is a list like that in a network like that.
  abbrev pub EmptyPass : Type 0
  EmptyPass = Bytes network → (((census_of network list).holding ≡ 0) ↔ Empty house1 N L)
      × ((Passes network list × ((census_of network list).holding ≡ 0))
      ↔ (SoundRecord network × WellFormed list_lead list × ListsNone house1 N L × QuietRecord network))

  -- In such a network no route is promised and none is asked for, by the counts of any list.
  abbrev pub QuietCounts : Type 0
  QuietCounts = QuietRecord network → ((census_of network list).promised ≡ 0) × ((census_of network list).asked ≡ 0)

  -- A network in which none is assumed either, and none starts, is such a network.
  abbrev pub CountsQuiet : Type 0
  CountsQuiet = All (λ (b : Own Route Demand). b.initial ≡ None) (own_boxes N)
      → (census_of network list).assumed ≡ 0 → (census_of network list).promised ≡ 0 → (census_of network list).asked ≡ 0 → QuietRecord network

  -- On a pass every box that has to hold a route holds one, so that no more are asked for than there are.
  abbrev pub AskedHold : Type 0
  AskedHold = Bytes network → Passes network list
      → All (λ (b : Own Route Demand). asks_route b.demand ≡ true → silent house1 L b ≡ false) (own_boxes N)
      × ((census_of network list).asked ≤ (census_of network list).holding)

  -- Where every own box has to hold a route, no pass has a silent box.
  abbrev pub NoneSilent : Type 0
  NoneSilent = Bytes network → All (λ (b : Own Route Demand). asks_route b.demand ≡ true) (own_boxes N) → Passes network list
      → All (λ (b : Own Route Demand). silent house1 L b ≡ false) (own_boxes N)

  -- On a pass each own box holds a route, or has to hold none, or is named by the census.
  abbrev pub Accounted : Type 0
  Accounted = Bytes network → Passes network list
      → (census_of network list).boxes ≡ (census_of network list).holding + told house1 N house_asking + length (census_of network list).silent

-- The record of the list that holds no route anywhere.
abbrev pub SilenceWritten : List ℕ → Type 0
SilenceWritten network = Bytes network → SoundRecord network
    → Passes network (write_list (form_of network) (silent_list house1 (network_of network))) ↔ QuietRecord network

-- The boxes that the census of a record names which was cut out for fragment k: those of the whole's census that are in the fragment.
abbrev pub SilentPart : List ℕ → List ℕ → List ℕ → ℕ → Type 0
SilentPart network sheet list k = Bytes network → Bytes sheet → (out F : List ℕ) → cut_into network sheet k out ≡ given F
    → (census_of F list).silent ≡ filter (λ (i : ℕ). eqb (number (sheet_of sheet) i) k) (census_of network list).silent

-- The counts of own boxes in fragments 0 to 63 come to the whole's: all of them, those that hold a route, those that have to, and those that
-- the census names. This is so of any list, of one that fails, too.
abbrev pub CensusAddsUp : List ℕ → List ℕ → List ℕ → Type 0
CensusAddsUp network sheet list = Bytes network → Bytes sheet → SheetCuts network sheet
    → (out : ℕ → List ℕ) → ((k : ℕ) → Roomy (form_of network) (out k)) → AddsUp (census_in network sheet list out) 64 (census_of network list)

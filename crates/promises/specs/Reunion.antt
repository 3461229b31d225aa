-- The fragments of one cut, joined again: what document 02's K3 adds to demand 3. It is about bytes, and buffers hold what they hold, with room for
-- the largest record.
--     join_all                           fragments cut out and joined two by two, in any order, each into a buffer
--     Whole, SomePlan                   a plan of all fragments of a cut; there is one
--     promising_record, PromisingSound   the network's record with promises added where cut wires leave, which is a sound one
--     PartsJoin, PlansAlike             what all fragments join to, whatever the order
--     CutBack                           cutting that gives the fragments back
use Rattle.std.specs.Prelude.{◌≡◌, true, List, ℕ, length}
use Rattle.lists.specs.All.{All, any, Distinct}
use Rattle.lists.specs.Answer.{Answer, given, and_then}
use Rattle.lists.specs.Bytes.{Bytes}
use Rattle.routes.specs.declared.Demand.{Demand}
use Rattle.routes.specs.declared.Route.{Route}
use Rattle.networks.specs.Cut.{numbered}
use Rattle.networks.specs.Network.{Own, own_boxes}
use Rattle.networks.specs.Reunion.{promising, Plan, part, both, numbers, among}
use Rattle.networks.specs.Sheets.{number}
use Rattle.layout.specs.Form.{form_of}
use Rattle.layout.specs.declared.Form.{Form}
use Rattle.records.specs.Network.{SoundRecord}
use Rattle.reading.specs.Whole.{HouseNetwork, HouseSheet, write_network, network_of, sheet_of}
use Rattle.promises.specs.Calls.{cut_into, join_into, Roomy, SheetCuts}

-- every buffer of a plan has room for the largest record
abbrev pub AllRoomy : Form → Plan (List ℕ) → Type 0
AllRoomy f (part k out) = Roomy f out
AllRoomy f (both l r out) = AllRoomy f l × AllRoomy f r × Roomy f out

module _ (network sheet : List ℕ) where
  abbrev N : HouseNetwork
  N = network_of network

  abbrev S : HouseSheet
  S = sheet_of sheet

  -- what a plan leaves in the last of its buffers: each fragment cut out into one, and each two records that are left joined into another
  abbrev pub join_all : Plan (List ℕ) → Answer (List ℕ)
  join_all (part k out) = cut_into network sheet k out
  join_all (both l r out) = and_then (join_all l) (λ (F : List ℕ). and_then (join_all r) (λ (G : List ℕ). join_into F G out))

  -- A plan has every fragment of the cut once: its numbers are all different, each is an own box's, and every own box's is among them.
  pub record Whole (plan : Plan (List ℕ)) : Type 0 where
    pub once : Distinct (numbers plan)
    pub there : All (λ (k : ℕ). any (numbered N S k) (own_boxes N) ≡ true) (numbers plan)
    pub every : All (λ (b : Own Route Demand). among (numbers plan) (number S b.id) ≡ true) (own_boxes N)
    pub roomy : AllRoomy (form_of network) plan

  -- There is such a plan of every sound network.
  abbrev pub SomePlan : Type 0
  SomePlan = Bytes network → SoundRecord network → (plan : Plan (List ℕ)) × Whole plan

  -- the bytes of the network with the promises that cutting adds
  abbrev pub promising_record : List ℕ
  promising_record = write_network (form_of network) (promising N S)

  -- With buffers that have room for the largest record, whatever the order in which a cut's fragments are joined, the network comes back,
  -- with the note promised wherever a cut wire leaves a box that promised nothing.
  abbrev pub PartsJoin : Plan (List ℕ) → Type 0
  PartsJoin plan = Bytes network → Bytes sheet → SheetCuts network sheet → Whole plan → join_all plan ≡ given promising_record

  -- So any two such plans leave the same bytes.
  abbrev pub PlansAlike : Plan (List ℕ) → Plan (List ℕ) → Type 0
  PlansAlike plan other = Bytes network → Bytes sheet → SheetCuts network sheet → Whole plan → Whole other → join_all plan ≡ join_all other

  -- This record is a sound one, says just this, and is as long as the network's.
  abbrev pub PromisingSound : Type 0
  PromisingSound = Bytes network → Bytes sheet → SoundRecord network → SoundRecord promising_record × Bytes promising_record
      × (form_of promising_record ≡ form_of network) × (network_of promising_record ≡ promising N S) × (length promising_record ≡ length network)

  -- By the same sheet the joined record is cut into the same fragments: the sheet cuts it, and whatever number is asked, the bytes that a cut
  -- leaves of it in a buffer with room, or its refusal, are those of a cut of the network.
  abbrev pub CutBack : Plan (List ℕ) → Type 0
  CutBack plan = Bytes network → Bytes sheet → SheetCuts network sheet → Whole plan → (J : List ℕ) → join_all plan ≡ given J
      → SheetCuts J sheet
      × ((k : ℕ) (out out' : List ℕ) → Roomy (form_of network) out → Roomy (form_of network) out' → cut_into J sheet k out ≡ cut_into network sheet k out')

-- What the refusals of the cut leave where they do not apply.
use Rattle.std.specs.Prelude.{ℕ, true, List, ◌≡◌}
use Rattle.std.proofs.Math.Option.{none}
use Rattle.lists.specs.All.{any}
use Rattle.networks.specs.Lowest.{unentered}
use Rattle.networks.specs.Cut.{numbered}
use Rattle.networks.specs.Network.{own_boxes}
use Rattle.networks.specs.Sheets.{note}
use Rattle.layout.specs.declared.Form.{Form}
use Rattle.lists.specs.Answer.{Answer}
use Rattle.marking.specs.declared.Fragment.{Fragment}
use Rattle.reading.specs.Whole.{HouseNetwork, read_network, read_sheet}
use Rattle.cutting.specs.Cutting.{cut_said}

-- every own box has an entry: 17 does not apply
unfoldable pub AllEntered : Form → List ℕ → List ℕ → Type 0
AllEntered f network sheet = unentered (read_network f network) (note (read_sheet f sheet)) ≡ none

-- an own box has the number asked: 18 does not apply
unfoldable pub Asked : Form → List ℕ → List ℕ → ℕ → Type 0
Asked f network sheet k = any (numbered (read_network f network) (read_sheet f sheet) k) (own_boxes (read_network f network)) ≡ true

-- the same of a fragment by its tables, and what the cut of it says
module _ (c : Fragment) where
  abbrev pub EnteredOf : Type 0
  EnteredOf = AllEntered c.entered.network.form c.entered.network.bytes.now c.entered.sheet.now

  abbrev pub AskedOf : Type 0
  AskedOf = Asked c.entered.network.form c.entered.network.bytes.now c.entered.sheet.now c.k

  abbrev pub said_of : Answer HouseNetwork
  said_of = cut_said c.entered.network.form c.entered.network.bytes.now c.entered.sheet.now c.k

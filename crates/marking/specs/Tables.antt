-- What the tables of a cut hold, by the rows of the network's nodes.
--     box_in, own_meets                          the box in a row
--     outside, unclashed                       the rows that 18 and 19 pass over
--     row_fragment, with_fragment, Numbered      the fragment numbers
use Rattle.std.specs.Prelude.{ℕ, ◌<◌, Bool, cond, not, ◌&&◌, List, ◌≡◌, eqb, get_or, set}
use Rattle.lists.specs.Filter.{holds}
use Rattle.routes.specs.declared.Demand.{Demand}
use Rattle.routes.specs.declared.Route.{Route}
use Rattle.networks.specs.Cut.{clashes}
use Rattle.reading.specs.House.{house}
use Rattle.networks.specs.Network.{Own, Box, as_own}
use Rattle.networks.specs.Sheets.{number}
use Rattle.layout.specs.Layout.{node_count, node_offset}
use Rattle.nodes.specs.Node.{node_id, is_own}
use Rattle.layout.specs.declared.Form.{Form}
use Rattle.reading.specs.Parts.{box_at}
use Rattle.routes.specs.Carry.{highest}
use Rattle.reading.specs.Whole.{read_network, read_sheet}

module _ (f : Form) (network : List ℕ) where
  -- the box in row i
  unfoldable pub box_in : ℕ → Box Route Demand
  box_in i = box_at f.route network (node_offset f network i)

  -- the box in row i is an own one that meets a test
  unfoldable pub own_meets : (Own Route Demand → Bool) → ℕ → Bool
  own_meets test i = holds test (as_own (box_in i))

  -- the box in row i is no own box of fragment k, by the table of fragment numbers
  unfoldable pub outside : List ℕ → ℕ → ℕ → Bool
  outside fragments k i = not (is_own f network i && eqb (get_or fragments i 0) k)

module _ (f : Form) (network sheet : List ℕ) where
  -- the box in row i is no own box that a cut wire leaves and whose promise is not its note
  unfoldable pub unclashed : ℕ → Bool
  unclashed i = not (own_meets f network (clashes (house highest) (read_network f network) (read_sheet f sheet)) i)

  -- the fragment number of the box in row i; an input has 64, which is no fragment's number
  unfoldable pub row_fragment : ℕ → ℕ
  row_fragment i = cond (is_own f network i) (number (read_sheet f sheet) (node_id f network i)) 64

  -- the table with the fragment number of row i
  unfoldable pub with_fragment : ℕ → List ℕ → List ℕ
  with_fragment i table = set table i (row_fragment i)

  -- the table holds the fragment numbers of all rows
  pub record Numbered (fragments : List ℕ) : Type 0 where
    pub row : (i : ℕ) → i < node_count network → get_or fragments i 0 ≡ row_fragment i

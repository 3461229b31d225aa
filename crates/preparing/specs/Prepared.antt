-- What judging and the lookup stand on: two records that are not refused, an entry for every own box, and two tables filled from them.
--     lacking_refusal, prepare_refusal     what is refused before the search: 17 alone, and 1 to 17
--     Listed                             nothing of that applies
--     stand_at, stand_of                   where the routes stand
--     with_stand, .., stands_after         the table of it, row by row, and after a call
--     Standing, Prepared                 the records with one table, and with both
use Rattle.std.specs.Prelude.{ℕ, ◌+◌, ◌<◌, ◌≡◌, true, cond, List, length, get_or, set, Result, Ok, Err}
use Rattle.layout.specs.Layout.{entry_count, entry_offset, node_count, node_offset}
use Rattle.entries.specs.Entries.{list_refusal}
use Rattle.layout.specs.Form.{list_lead}
use Rattle.records.specs.Network.{network_refusal}
use Rattle.nodes.specs.Node.{is_own}
use Rattle.records.specs.Entered.{entry_in}
use Rattle.records.specs.Rows.{Filled}
use Rattle.layout.specs.declared.Form.{Form}
use Rattle.layout.specs.declared.Refusal.{Refusal}
use Rattle.reading.specs.Whole.{read_network, read_list}
use Rattle.records.specs.Checked.{CheckedNetwork, CheckedEntries}
use Rattle.lists.specs.Answer.{Answer, given, and_then}
use Rattle.lists.specs.Gather.{table_after}
use Rattle.lists.specs.Test.{first_applying}
use Rattle.networks.specs.Judge.{judge_table}
use Rattle.reading.specs.House.{house}
use Rattle.routes.specs.Carry.{highest}

-- 17, or the form
unfoldable pub lacking_refusal : Form → List ℕ → List ℕ → Answer Form
lacking_refusal f network list = first_applying (judge_table (house highest) (read_network f network) (read_list f list)) (given f)

-- the network's refusals, the list's, and 17; or the records' form
unfoldable pub prepare_refusal : List ℕ → List ℕ → Answer Form
prepare_refusal network list =
    and_then (network_refusal network) (λ (f : Form).
    and_then (list_refusal list) (λ (g : Form).
    lacking_refusal f network list))

-- two records that are not refused, and an entry for every own box
pub record Listed (f : Form) (network list : List ℕ) : Type 0 where
  pub checked : CheckedNetwork f network
  pub entries : CheckedEntries f list_lead list
  pub entered : (i : ℕ) → i < node_count network → is_own f network i ≡ true → entry_in f list_lead network list i < entry_count list

-- where the route of the node in row i stands, counted through the network's bytes and then the list's: that of an own box in its entry,
-- which is in a row of the list, and that of an input in its node
unfoldable pub stand_at : Form → List ℕ → ℕ → ℕ → ℕ
stand_at f network i entry = cond (is_own f network i) (length network + (entry_offset f list_lead entry + list_lead)) (node_offset f network i + 3)

unfoldable pub stand_of : Form → List ℕ → List ℕ → ℕ → ℕ
stand_of f network list i = stand_at f network i (entry_in f list_lead network list i)

-- the entry's row that a table of entries has for the node in row i
unfoldable pub placed_in : List ℕ → ℕ → ℕ
placed_in places i = get_or places i 0

-- the table with where the route of row i stands, and with where those of all rows do, by the row of each node's entry
unfoldable pub with_stand : Form → List ℕ → (ℕ → ℕ) → ℕ → List ℕ → List ℕ
with_stand f network entry i table = set table i (stand_at f network i (entry i))

unfoldable pub with_stands : Form → List ℕ → (ℕ → ℕ) → List ℕ → List ℕ
with_stands f network entry table = table_after (with_stand f network entry) (node_count network) table

-- the table after a call: filled where nothing is refused, and else as it was
unfoldable pub stands_after : List ℕ → List ℕ → Result Form Refusal → List ℕ → List ℕ
stands_after network list (Ok f) table = with_stands f network (entry_in f list_lead network list) table
stands_after network list (Err r) table = table

-- the table has the rows of all nodes
unfoldable pub Standing : Form → List ℕ → List ℕ → List ℕ → Type 0
Standing f network list stands = Listed f network list × ((i : ℕ) → i < node_count network → get_or stands i 0 ≡ stand_of f network list i)

-- and the table from ids to rows is filled
unfoldable pub Prepared : Form → List ℕ → List ℕ → List ℕ → List ℕ → Type 0
Prepared f network list rows stands = Standing f network list stands × Filled f network rows

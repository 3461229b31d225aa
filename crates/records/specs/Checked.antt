-- A record that a check has not refused, with what follows for its readers.
--     CheckedNetwork, CheckedRows     a network; the same with its table from ids to rows
--     CheckedEntries                  a route list or a sheet, by what stands before an entry's route
use Rattle.std.specs.Prelude.{ℕ, List}
use Rattle.lists.specs.Bytes.{Bytes}
use Rattle.lists.specs.Rising.{Rising}
use Rattle.layout.specs.Layout.{entry_count, EntriesRoom, Room, node_count}
use Rattle.entries.specs.Entries.{entry_id, EntriesFine}
use Rattle.records.specs.Network.{NetworkFine}
use Rattle.nodes.specs.Node.{node_id}
use Rattle.records.specs.Rows.{Filled}
use Rattle.layout.specs.declared.Form.{Form}

-- a network that none of 1 to 10 applies to
pub record CheckedNetwork (f : Form) (network : List ℕ) : Type 0 where
  pub bytes : Bytes network
  pub sound : NetworkFine f network
  pub room : Room f network
  pub rising : Rising (node_id f network) (node_count network)

-- and its table from ids to rows
pub record CheckedRows (f : Form) (network rows : List ℕ) : Type 0 where
  pub checked : CheckedNetwork f network
  pub filled : Filled f network rows

-- a route list or a sheet that none of 11 to 16 applies to
pub record CheckedEntries (f : Form) (lead : ℕ) (entries : List ℕ) : Type 0 where
  pub bytes : Bytes entries
  pub formed : EntriesFine f lead entries
  pub room : EntriesRoom f lead entries
  pub rising : Rising (entry_id f lead entries) (entry_count entries)

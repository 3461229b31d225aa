-- That a record or a table is as it has to be holds in one way at most: each is made of orders and equations of numbers.
use Rattle.std.specs.Prelude.{ℕ, List}
use Rattle.layout.specs.declared.Form.{Form}
use Rattle.lists.specs.Rising.{Rising}
use Rattle.records.specs.Checked.{CheckedNetwork, CheckedEntries}
use Rattle.records.specs.Entered.{EntryRows}
use Rattle.records.specs.Rows.{Filled, Tabled}
use denote.Struct.Props.{props}

pub tabled_once : (f : Form) (b rows : List ℕ) → IsProp (Tabled f b rows)
unfolding Filled
tabled_once f b rows = hlevel props

pub filled_once : (f : Form) (b rows : List ℕ) → IsProp (Filled f b rows)
unfolding Filled
filled_once f b rows = hlevel props

pub network_once : (f : Form) (network : List ℕ) → IsProp (CheckedNetwork f network)
unfolding Rising
network_once f network = hlevel props

pub entries_once : (f : Form) (lead : ℕ) (entries : List ℕ) → IsProp (CheckedEntries f lead entries)
unfolding Rising
entries_once f lead entries = hlevel props

pub entry_rows_once : (f : Form) (lead : ℕ) (network entries table : List ℕ) → IsProp (EntryRows f lead network entries table)
entry_rows_once f lead network entries table = hlevel props

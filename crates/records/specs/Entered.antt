-- The entries of a network's own boxes in a route list or a sheet, by the rows of the nodes.
--     entry_in, entered          a node's entry, and what 17 asks of each node
--     with_entry, EntryRows      the table of their rows
use Rattle.std.specs.Prelude.{ℕ, ◌<◌, ◌≡◌, Bool, true, cond, not, ◌&&◌, ◌||◌, List, ltb, get_or, set}
use Rattle.layout.specs.Layout.{entry_count, node_count}
use Rattle.entries.specs.Entries.{entry_of}
use Rattle.nodes.specs.Node.{node_id, is_own}
use Rattle.layout.specs.declared.Form.{Form}

module _ (f : Form) (lead : ℕ) (network entries : List ℕ) where
  -- the row of the entry for the node in row i, or the number of entries where there is none
  abbrev pub entry_in : ℕ → ℕ
  entry_in i = entry_of f lead entries (node_id f network i)

  -- the node in row i is no own one, or has an entry
  unfoldable pub entered : ℕ → Bool
  entered i = not (is_own f network i) || ltb (entry_in i) (entry_count entries)

  -- the table with the row of the entry for the node in row i, where it is an own one with an entry
  unfoldable pub with_entry : ℕ → List ℕ → List ℕ
  with_entry i table = cond (is_own f network i && ltb (entry_in i) (entry_count entries)) (set table i (entry_in i)) table

  -- an own box's entry, by its row
  pub record EntryRow (i row : ℕ) : Type 0 where
    pub is : row ≡ entry_in i
    pub there : row < entry_count entries

  -- the table holds the rows of the entries of all own boxes
  pub record EntryRows (table : List ℕ) : Type 0 where
    pub row : (i : ℕ) → i < node_count network → is_own f network i ≡ true → EntryRow i (get_or table i 0)

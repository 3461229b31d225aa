-- That the entries of a record are all there and rise holds in one way at most: it is made of orders of numbers.
use Rattle.std.specs.Prelude.{ℕ, List}
use Rattle.lists.specs.Rising.{Rising}
use Rattle.layout.specs.declared.Form.{Form}
use Rattle.layout.specs.Layout.{EntriesRoom, entry_count}
use Rattle.entries.specs.Entries.{entry_id}
use denote.Struct.Props.{props}

pub room_once : (f : Form) (lead : ℕ) (b : List ℕ) → IsProp (EntriesRoom f lead b)
room_once f lead b = hlevel props

pub rising_once : (f : Form) (lead : ℕ) (b : List ℕ) → IsProp (Rising (entry_id f lead b) (entry_count b))
unfolding Rising
rising_once f lead b = hlevel props

-- That the records and their tables are prepared holds in one way at most: it is made of orders and equations of numbers.
use Rattle.std.specs.Prelude.{ℕ, List}
use Rattle.lists.specs.Rising.{Rising}
use Rattle.layout.specs.declared.Form.{Form}
use Rattle.records.specs.Rows.{Filled}
use Rattle.preparing.specs.Prepared.{Standing, Prepared}
use denote.Struct.Props.{props}

pub standing_once : (f : Form) (network list stands : List ℕ) → IsProp (Standing f network list stands)
unfolding Standing Rising
standing_once f network list stands = hlevel props

pub prepared_once : (f : Form) (network list rows stands : List ℕ) → IsProp (Prepared f network list rows stands)
unfolding Prepared Filled
prepared_once f network list rows stands = hlevel (props, standing_once)

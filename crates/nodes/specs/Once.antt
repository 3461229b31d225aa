-- That a network record has room for its parts holds in one way at most: it is made of orders and equations of numbers.
use Rattle.std.specs.Prelude.{ℕ, List}
use Rattle.layout.specs.declared.Form.{Form}
use Rattle.layout.specs.Layout.{Room}
use denote.Struct.Props.{props}

pub room_once : (f : Form) (b : List ℕ) → IsProp (Room f b)
room_once f b = hlevel props

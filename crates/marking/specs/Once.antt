-- That a table has the fragment numbers holds in one way at most, so that a type may hold it.
use Rattle.std.specs.Prelude.{ℕ, List}
use Rattle.layout.specs.declared.Form.{Form}
use Rattle.marking.specs.Tables.{Numbered}
use denote.Struct.Props.{props}

pub numbered_once : (f : Form) (network sheet fragments : List ℕ) → IsProp (Numbered f network sheet fragments)
numbered_once f network sheet fragments = hlevel props

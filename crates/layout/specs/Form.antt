-- What the version of a record decides: its version byte, the width of a route and the greatest number of nodes and of entries. All other
-- widths follow.
use Rattle.std.specs.Prelude.{ℕ, ◌+◌, ◌≤◌, ◌<◌, ◌≡◌, Bool, cond, List, eqb, get_or, Option, Some, None}
use Rattle.layout.specs.declared.Form.{Form}

abbrev pub version1 : Form
version1 = record { version = 1; route = 9; most = 512 }

-- the form whose records are the largest: what a program reads is bounded by it
abbrev pub widest : Form
widest = version1

-- the form of a record, by its bytes
unfoldable pub form_of : List ℕ → Form
form_of b = version1

-- the version byte is the form's; if not, the record is refused (2 and 12)
unfoldable pub versioned : Form → List ℕ → Bool
versioned f b = eqb (get_or b 4 0) f.version

-- the form that a record's version byte names, if it names one
unfoldable pub formed : List ℕ → Option Form
formed b = cond (versioned (form_of b) b) (Some (form_of b)) None

-- the forms that records have
unfoldable pub Known : Form → Type 0
Known f = f ≡ version1

-- id, kind, route, promise flag, promised route, demand, ceiling, tags
unfoldable pub node_width : Form → ℕ
node_width f = 9 + f.route + f.route

-- an entry of a route list has its id before the route, an entry of a sheet its id and its fragment number
abbrev pub list_lead : ℕ
list_lead = 2

abbrev pub sheet_lead : ℕ
sheet_lead = 3

unfoldable pub entry_width : Form → ℕ → ℕ
entry_width f lead = lead + f.route

-- what the code asks of a form: its numbers fit, and its tables have room
pub record Usable (f : Form) : Type 0 where
  pub byte : f.version < 256
  pub wide : 9 ≤ f.route
  pub narrow : f.route ≤ 16
  pub few : f.most ≤ 1024

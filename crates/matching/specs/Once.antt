-- That two records have one form holds in one way at most: a form is made of numbers.
use Rattle.std.specs.Prelude.{◌≡◌}
use Rattle.layout.specs.declared.Form.{Form}
use denote.Struct.Props.{props}

pub one_form_once : (f g : Form) → IsProp (f ≡ g)
one_form_once f g = hlevel props

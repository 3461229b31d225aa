-- The derived equality compares the seven fields in the definition's order, and a flag as the flag byte does (flag_alike).
use mathlib.Core.Path.{◌≡◌, refl}
use mathlib.Core.Bool.{Bool, true, false, beq}
use lib.Dec.{eqb}
use Rattle.routes.specs.Alike.{flag_byte, same_policy}
use Rattle.routes.proofs.alike.same_policy.Goals as goal

flag_alike : (s t : Bool) → beq s t ≡ eqb (flag_byte s) (flag_byte t)
flag_alike true true = refl
flag_alike true false = refl
flag_alike false true = refl
flag_alike false false = refl

pub returns : goal.returns
unfolding same_policy
returns c = rw (← flag_alike c.args.p.flag c.args.q.flag) c.eq.ensures

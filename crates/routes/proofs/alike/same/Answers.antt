-- What the derived equality computes is the definition's equality, case by case.
use mathlib.Core.Path.{◌≡◌, refl, ap, ◌∙◌}
use mathlib.Core.Bool.{Bool, true, false, ◌&&◌}
use lib.Dec.{eqb}
use Rattle.routes.specs.Order.{same}
use Rattle.routes.specs.declared.Route.{Route}
use Rattle.routes.specs.declared.Route.TheVariants.{None, Held}
use Rattle.routes.specs.contracts.RoutePartialEq.TheImpl as derived
use Rattle.routes.proofs.alike.same.Goals as goal

-- the last test stands alone
last_alike : (t : Bool) → t ≡ t && true
last_alike true = refl
last_alike false = refl

derived_same : (a b : Route) → derived.ghosts.eq a b ≡ same a b
unfolding same
derived_same None None = refl
derived_same None (Held y) = refl
derived_same (Held x) None = refl
derived_same (Held x) (Held y) =
    ap (λ (t : Bool). eqb x.preference y.preference && (eqb x.cost y.cost && (eqb x.origin y.origin && t))) (last_alike (eqb x.tags y.tags))

pub returns : goal.returns
returns c = c.eq.ensures ∙ derived_same c.args.a c.args.b

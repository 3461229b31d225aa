-- The house's routes as a routing algebra, over the highest cost that a wire may give; what a route costs; whether two policies are equal.
use Rattle.std.specs.Prelude.{ℕ}
use Rattle.lists.specs.Best.{best}
use Rattle.routes.specs.declared.Demand.{Demand}
use Rattle.routes.specs.declared.Policy.{Policy}
use Rattle.routes.specs.declared.Route.{Route}
use Rattle.routes.specs.declared.Route.TheVariants.{None, Held}
use Rattle.routes.specs.Order.{beats, same}
use Rattle.routes.specs.Carry.{carried}
use Rattle.routes.specs.Demand.{meets}
use Rattle.routes.specs.Alike.{same_policy}
use Rattle.routes.proofs.Ordered.{same_true, same_refl}
use Rattle.routes.proofs.AlikeLaws.{alike_true, alike_self}
use Rattle.networks.specs.Algebra.{Algebra, Telling}

abbrev pub house : ℕ → Algebra
house top = record {
  Route = Route;
  Policy = Policy;
  Demand = Demand;
  no_route = None;
  same = same;
  best = best beats;
  carry = carried top;
  meets = meets;
  same_true = same_true;
  same_self = same_refl;
}

-- none costs nothing
abbrev pub cost_of : Route → ℕ
cost_of None = 0
cost_of (Held f) = f.cost

abbrev pub house_telling : (top : ℕ) → Telling (house top)
house_telling top = record { alike = same_policy; alike_true = alike_true; alike_self = alike_self }

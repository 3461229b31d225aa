-- The cases of a demand, one a law, as the code takes them.
use mathlib.Core.Path.{◌≡◌}
use mathlib.Core.Bool.{true, false}
use Prim.Native.Nat.{ℕ, ◌≤◌, ◌<◌}
use lib.Bits.{bit_and}
use lib.Dec.{eqb, leb}
use borrow.Author.Tests.{le-leb, lt-leb}
use Rattle.routes.specs.Demand.{meets}
use Rattle.routes.specs.declared.Fields.{Fields}
use Rattle.routes.specs.declared.Demand.{Demand}
use Rattle.routes.specs.declared.Demand.TheVariants.{Nothing, Hold, HoldNone}
use Rattle.routes.specs.declared.Route.{Route}
use Rattle.routes.specs.declared.Route.TheVariants.{None, Held}

module _ (d : Demand) (r : Route) where
  pub met_nothing : d ≡ Nothing → true ≡ meets d r
  unfolding meets
  met_nothing e = rw e

  pub met_none : (c t : ℕ) → d ≡ Hold c t → r ≡ None → false ≡ meets d r
  unfolding meets
  met_none c t e q = rw (e, q)

  pub met_dear : (c t : ℕ) (f : Fields) → d ≡ Hold c t → r ≡ Held f → c < f.cost → leb f.cost c ≡ meets d r
  unfolding meets
  met_dear c t f e q h = rw (e, q, lt-leb f.cost c h)

  pub met_tags : (c t : ℕ) (f : Fields) → d ≡ Hold c t → r ≡ Held f → f.cost ≤ c → eqb (bit_and f.tags t) t ≡ meets d r
  unfolding meets
  met_tags c t f e q h = rw (e, q, le-leb f.cost c h)

  pub met_hold_none : d ≡ HoldNone → r ≡ None → true ≡ meets d r
  unfolding meets
  met_hold_none e q = rw (e, q)

  pub met_held : (f : Fields) → d ≡ HoldNone → r ≡ Held f → false ≡ meets d r
  unfolding meets
  met_held f e q = rw (e, q)

pub ruleset met = (met_nothing, met_none, met_dear, met_tags, met_hold_none, met_held)

-- Whether a box's route meets the demand set at the box (document 01, 'Records', the node's demand).
use Rattle.std.specs.Prelude.{Bool, true, false, ◌&&◌, eqb, leb}
use Rattle.std.specs.Int.Bits.{bit_and}
use Rattle.routes.specs.declared.Demand.{Demand}
use Rattle.routes.specs.declared.Demand.TheVariants.{Nothing, Hold, HoldNone}
use Rattle.routes.specs.declared.Route.{Route}
use Rattle.routes.specs.declared.Route.TheVariants.{None, Held}

-- Nothing asked; or a route must be held, with a cost of at most the ceiling and all of the tags; or none must be held.
unfoldable pub meets : Demand → Route → Bool
meets Nothing r = true
meets (Hold ceiling tags) None = false
meets (Hold ceiling tags) (Held f) = leb f.cost ceiling && eqb (bit_and f.tags tags) tags
meets HoldNone None = true
meets HoldNone (Held f) = false

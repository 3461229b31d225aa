-- What the house's demands ask as far as silence goes: demand 1 asks for a route, demand 2 for none, and demand 0 for neither.
--     asks_route, asks_none     the two tests
--     house_asking             they are what `meets` makes of no route, and of a demand to hold none
use Rattle.std.specs.Prelude.{◌≡◌, refl, Bool, true, false, not}
use Rattle.std.proofs.lemmas.Bool.{false≢true}
use Rattle.routes.specs.declared.Demand.{Demand}
use Rattle.routes.specs.declared.Demand.TheVariants.{Nothing, Hold, HoldNone}
use Rattle.routes.specs.declared.Route.{Route}
use Rattle.routes.specs.declared.Route.TheVariants.{None, Held}
use Rattle.routes.specs.Order.{same}
use Rattle.routes.specs.Carry.{highest}
use Rattle.routes.specs.Demand.{meets}
use Rattle.networks.specs.Silence.{Asking}
use Rattle.reading.specs.House.{house}

abbrev pub asks_route : Demand → Bool
asks_route Nothing = false
asks_route (Hold ceiling tags) = true
asks_route HoldNone = false

abbrev pub asks_none : Demand → Bool
asks_none Nothing = false
asks_none (Hold ceiling tags) = false
asks_none HoldNone = true

pub none_meets : (d : Demand) → meets d None ≡ not (asks_route d)
unfolding meets
none_meets Nothing = refl
none_meets (Hold ceiling tags) = refl
none_meets HoldNone = refl

pub none_alone : (d : Demand) (r : Route) → asks_none d ≡ true → meets d r ≡ same r None
unfolding meets same
none_alone Nothing r e = absurd (false≢true e)
none_alone (Hold ceiling tags) r e = absurd (false≢true e)
none_alone HoldNone None e = refl
none_alone HoldNone (Held f) e = refl

abbrev pub house_asking : Asking (house highest)
house_asking = record { asks_route = asks_route; asks_none = asks_none; none_meets = none_meets; none_alone = none_alone }

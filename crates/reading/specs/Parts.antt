-- Boxes, wires and entries as bytes (document 01, 'Records'): what stands at an offset, and what is written. w is the width of a route.
use Rattle.std.specs.Prelude.{ℕ, ◌+◌, cond, List, [], ◌∷◌, ◌++◌, eqb, get_or}
use Rattle.std.proofs.Math.Option.{Option, none, some}
use Rattle.lists.specs.Rows.{laid_rows}
use Rattle.numbers.specs.BigEndian.{u16_at, u16_bytes}
use Rattle.routes.specs.Form.{route_at, route_bytes}
use Rattle.routes.specs.declared.Demand.{Demand}
use Rattle.routes.specs.declared.Demand.TheVariants.{Nothing, Hold, HoldNone}
use Rattle.routes.specs.declared.Route.{Route}
use Rattle.routes.specs.declared.Route.TheVariants.{None}
use Rattle.networks.specs.Network.{Box, own, input, Wire}
use Rattle.networks.specs.Sheets.{SheetEntry, ListEntry}

-- demand, ceiling, tags
unfoldable pub demand_at : List ℕ → ℕ → Demand
demand_at b o = cond (eqb (get_or b o 0) 0) Nothing (cond (eqb (get_or b o 0) 1) (Hold (u16_at b (o + 1)) (u16_at b (o + 3))) HoldNone)

unfoldable pub demand_bytes : Demand → List ℕ
demand_bytes Nothing = 0 ∷ laid_rows u16_bytes (0 ∷ 0 ∷ [])
demand_bytes (Hold ceiling tags) = 1 ∷ laid_rows u16_bytes (ceiling ∷ tags ∷ [])
demand_bytes HoldNone = 2 ∷ laid_rows u16_bytes (0 ∷ 0 ∷ [])

-- flag and promised route: flag 1 with no route is a promise to hold none
unfoldable pub promise_at : ℕ → List ℕ → ℕ → Option Route
promise_at w b o = cond (eqb (get_or b o 0) 0) none (some (route_at w b (o + 1)))

unfoldable pub promise_bytes : ℕ → Option Route → List ℕ
promise_bytes w none = 0 ∷ route_bytes w None
promise_bytes w (some r) = 1 ∷ route_bytes w r

-- id, kind, route, promise, demand: the route is an own box's initial one, or the assumed one of an input
unfoldable pub box_at : ℕ → List ℕ → ℕ → Box Route Demand
box_at w b o =
    cond (eqb (get_or b (o + 2) 0) 0)
    (own (record { id = u16_at b o; initial = route_at w b (o + 3); promise = promise_at w b (o + 3 + w); demand = demand_at b (o + 4 + w + w) }))
    (input (record { id = u16_at b o; assumed = route_at w b (o + 3) }))

unfoldable pub box_bytes : ℕ → Box Route Demand → List ℕ
box_bytes w (own v) = u16_bytes v.id ++ (0 ∷ (route_bytes w v.initial ++ (promise_bytes w v.promise ++ demand_bytes v.demand)))
box_bytes w (input v) = u16_bytes v.id ++ (1 ∷ (route_bytes w v.assumed ++ (promise_bytes w none ++ demand_bytes Nothing)))

-- to, from, policy
unfoldable pub wire_at : List ℕ → ℕ → Wire
wire_at b o = record { to = u16_at b o; from = u16_at b (o + 2); policy = get_or b (o + 4) 0 }

unfoldable pub wire_bytes : Wire → List ℕ
wire_bytes e = u16_bytes e.to ++ (u16_bytes e.from ++ (e.policy ∷ []))

-- id, fragment, note
unfoldable pub sheet_entry_at : ℕ → List ℕ → ℕ → SheetEntry Route
sheet_entry_at w b o = record { id = u16_at b o; fragment = get_or b (o + 2) 0; note = route_at w b (o + 3) }

unfoldable pub sheet_entry_bytes : ℕ → SheetEntry Route → List ℕ
sheet_entry_bytes w e = u16_bytes e.id ++ (e.fragment ∷ route_bytes w e.note)

-- id, route
unfoldable pub list_entry_at : ℕ → List ℕ → ℕ → ListEntry Route
list_entry_at w b o = record { id = u16_at b o; route = route_at w b (o + 2) }

unfoldable pub list_entry_bytes : ℕ → ListEntry Route → List ℕ
list_entry_bytes w e = u16_bytes e.id ++ route_bytes w e.route

-- The networks, lists and sheets of the bench examples (document 01; document 02, K1 to K3), as records.
--     held, adds, masks        routes and policies
--     chain_record              three boxes in a row
--     two_answers               the network with two settled lists
--     two_senders               a box that two others supply
--     listing, splitting       lists and sheets for three boxes
--     pair_record, pair_listing  two boxes, and a list for them
--     fed_record, fed_listing    a box that an input supplies, and a list for it
--     owner_record              the box that others have for an input
--     both_record, two_fed_record that box and one that it supplies; two boxes that one input supplies
use Rattle.std.specs.Prelude.{true, false, List, [], ◌∷◌, ℕ}
use Rattle.std.proofs.Math.Option.{Option, none}
use Rattle.routes.specs.declared.Demand.{Demand}
use Rattle.routes.specs.declared.Demand.TheVariants.{Nothing, Hold}
use Rattle.routes.specs.declared.Policy.{Policy}
use Rattle.routes.specs.declared.Route.{Route}
use Rattle.routes.specs.declared.Route.TheVariants.{None, Held}
use Rattle.networks.specs.Network.{Box, own, input, Wire}
use Rattle.layout.specs.Form.{version1}
use Rattle.reading.specs.Whole.{write_network, write_list, write_sheet}

-- a route (preference, cost, origin, tags)
abbrev pub held : ℕ → ℕ → ℕ → ℕ → Route
held p c o t = Held (record { preference = p; cost = c; origin = o; tags = t })

-- policies that only add to the cost, or only have masks (need, bar, clear, set)
abbrev pub adds : ℕ → Policy
adds n = record { need = 0; bar = 0; clear = 0; set = 0; flag = false; preference = 0; added = n }

abbrev pub masks : ℕ → ℕ → ℕ → ℕ → Policy
masks n b c s = record { need = n; bar = b; clear = c; set = s; flag = false; preference = 0; added = 0 }

-- an own box that promises nothing
abbrev plain : ℕ → Route → Demand → Box Route Demand
plain id initial demand = own (record { id = id; initial = initial; promise = none; demand = demand })

abbrev wire : ℕ → ℕ → ℕ → Wire
wire to from policy = record { to = to; from = from; policy = policy }

-- Edges both ways between 1 and 2 and between 2 and 3 add 1; box 1 starts with a route, and box 3 must hold one up to a ceiling.
abbrev pub chain_record : Route → ℕ → List ℕ
chain_record start ceiling = write_network version1 (record {
  policies = adds 1 ∷ [];
  boxes = plain 1 start Nothing ∷ plain 2 None Nothing ∷ plain 3 None (Hold ceiling 0) ∷ [];
  wires = wire 1 2 0 ∷ wire 2 1 0 ∷ wire 2 3 0 ∷ wire 3 2 0 ∷ [];
})

-- Box 1 starts; 1 to 2 and 1 to 3 add 1; 2 to 3 and 3 to 2 bar tag 1, set tag 1, set preference 200, add 1.
abbrev pub two_answers : List ℕ
two_answers = write_network version1 (record {
  policies = adds 1 ∷ record { need = 0; bar = 1; clear = 0; set = 1; flag = true; preference = 200; added = 1 } ∷ [];
  boxes = plain 1 (held 100 0 1 0) Nothing ∷ plain 2 None Nothing ∷ plain 3 None Nothing ∷ [];
  wires = wire 2 1 0 ∷ wire 2 3 1 ∷ wire 3 1 0 ∷ wire 3 2 1 ∷ [];
})

-- Boxes 1 and 2 start with the same route, and wires from both to box 3 add 1; box 3 starts with a route or with none.
abbrev pub two_senders : Route → List ℕ
two_senders start = write_network version1 (record {
  policies = adds 1 ∷ [];
  boxes = plain 1 (held 100 0 1 0) Nothing ∷ plain 2 (held 100 0 1 0) Nothing ∷ plain 3 start Nothing ∷ [];
  wires = wire 3 1 0 ∷ wire 3 2 0 ∷ [];
})

-- Two boxes with wires both ways by the first of these policies; box 1 starts with a route or with none.
abbrev pub pair_record : List Policy → Route → List ℕ
pair_record policies start = write_network version1 (record {
  policies = policies;
  boxes = plain 1 start Nothing ∷ plain 2 None Nothing ∷ [];
  wires = wire 1 2 0 ∷ wire 2 1 0 ∷ [];
})

-- the list with these routes for boxes 1 and 2
abbrev pub pair_listing : Route → Route → List ℕ
pair_listing a b = write_list version1 (record { id = 1; route = a } ∷ record { id = 2; route = b } ∷ [])

-- Input 1 is assumed to hold a route; the wire from it to one own box adds 1.
abbrev pub fed_record : ℕ → Route → List ℕ
fed_record id assumed = write_network version1 (record {
  policies = adds 1 ∷ [];
  boxes = input (record { id = 1; assumed = assumed }) ∷ plain id None Nothing ∷ [];
  wires = wire id 1 0 ∷ [];
})

-- Own box 1 starts with a route and makes a promise or none; no wire leads into it.
abbrev owner : Option Route → Box Route Demand
owner promise = own (record { id = 1; initial = held 100 0 1 0; promise = promise; demand = Nothing })

abbrev pub owner_record : List Policy → Option Route → List ℕ
owner_record policies promise = write_network version1 (record { policies = policies; boxes = owner promise ∷ []; wires = [] })

-- that box and box 2, with the wire between them
abbrev pub both_record : Option Route → List ℕ
both_record promise = write_network version1 (record { policies = adds 1 ∷ []; boxes = owner promise ∷ plain 2 None Nothing ∷ []; wires = wire 2 1 0 ∷ [] })

-- boxes 2 and 3, both with a wire from input 1
abbrev pub two_fed_record : Route → List ℕ
two_fed_record assumed = write_network version1 (record {
  policies = adds 1 ∷ [];
  boxes = input (record { id = 1; assumed = assumed }) ∷ plain 2 None Nothing ∷ plain 3 None Nothing ∷ [];
  wires = wire 2 1 0 ∷ wire 3 1 0 ∷ [];
})

-- the list with this route for box 2
abbrev pub fed_listing : Route → List ℕ
fed_listing a = write_list version1 (record { id = 2; route = a } ∷ [])

-- the list with these routes for boxes 1, 2 and 3
abbrev pub listing : Route → Route → Route → List ℕ
listing a b c = write_list version1 (record { id = 1; route = a } ∷ record { id = 2; route = b } ∷ record { id = 3; route = c } ∷ [])

-- boxes 1 and 2 in fragment 0, box 3 in fragment 1, with these notes
abbrev pub splitting : Route → Route → Route → List ℕ
splitting a b c = write_sheet version1
    (record { id = 1; fragment = 0; note = a } ∷ record { id = 2; fragment = 0; note = b } ∷ record { id = 3; fragment = 1; note = c } ∷ [])

-- An own box by its row, and what is wrong there (document 01, 'Judging').
--     own_box_at                      id and initial route
--     finding_of                     what each fault says
--     unmet_of, fault_of, fault_at     the last finding alone, and the first that applies
use Rattle.std.specs.Prelude.{ℕ, ◌+◌, cond, not, List, Option, Some, None}
use Rattle.std.proofs.Math.Option.{none, some}
use Rattle.std.proofs.Math.Option as maybe
use Rattle.routes.specs.Carry.{highest}
use Rattle.routes.specs.Demand.{meets}
use Rattle.routes.specs.Form.{route_at}
use Rattle.routes.specs.declared.Demand as asked
use Rattle.routes.specs.declared.Route.{Route}
use Rattle.reading.specs.House.{house}
use Rattle.reading.specs.Parts.{promise_at, demand_at}
use Rattle.reading.specs.Whole.{read_list}
use Rattle.networks.specs.Judge.{Finding, held, first_finding}
use Rattle.layout.specs.Layout.{node_offset}
use Rattle.layout.specs.declared.Form.{Form}
use Rattle.nodes.specs.Node.{node_id}
use Rattle.boxes.specs.declared.Fault.{Fault}
use Rattle.boxes.specs.declared.Fault.TheVariants.{Due, Promise, Demand}
use Rattle.boxes.specs.declared.OwnBox.{OwnBox}

-- id and initial route
unfoldable pub own_box_at : Form → List ℕ → ℕ → OwnBox
own_box_at f network row = record { node = node_id f network row; initial = route_at f.route network (node_offset f network row + 3) }

-- what is wrong there, as a finding without the box and the count: 31 with the due route, 32 with the promise, 33 with the listed route
abbrev pub finding_of : Option Fault → maybe.Option (Finding Route)
finding_of None = none
finding_of (Some (Due r)) = some (record { number = 31; route = r })
finding_of (Some (Promise r)) = some (record { number = 32; route = r })
finding_of (Some (Demand r)) = some (record { number = 33; route = r })

-- the last row of the table of findings alone: the demand
unfoldable pub unmet_of : asked.Demand → Route → maybe.Option (Finding Route)
unmet_of demand held = cond (not (meets demand held)) (some (record { number = 33; route = held })) none

-- the first finding about the own box in a row, which holds one route and is due another
unfoldable pub fault_of : Form → List ℕ → ℕ → Route → Route → maybe.Option (Finding Route)
fault_of f network row x u =
    first_finding (house highest) x u
    (promise_at f.route network (node_offset f network row + 3 + f.route))
    (demand_at network (node_offset f network row + 4 + f.route + f.route))

-- the same of a box that holds what the list has for it
abbrev pub fault_at : Form → List ℕ → List ℕ → ℕ → Route → maybe.Option (Finding Route)
fault_at f network list row u = fault_of f network row (held (house highest) (read_list f list) (node_id f network row)) u

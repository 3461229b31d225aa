-- The box in a row of a network's nodes, by its kind.
use Rattle.std.specs.Prelude.{ℕ, ◌+◌, List}
use Rattle.routes.specs.Form.{route_at}
use Rattle.routes.specs.declared.Demand.{Demand}
use Rattle.routes.specs.declared.Route.{Route}
use Rattle.networks.specs.Network.{Own, Input}
use Rattle.layout.specs.Layout.{node_offset}
use Rattle.layout.specs.declared.Form.{Form}
use Rattle.nodes.specs.Node.{node_id}
use Rattle.reading.specs.Parts.{promise_at, demand_at}

module _ (f : Form) (network : List ℕ) (i : ℕ) where
  abbrev pub own_in : Own Route Demand
  own_in = record {
    id = node_id f network i;
    initial = route_at f.route network (node_offset f network i + 3);
    promise = promise_at f.route network (node_offset f network i + 3 + f.route);
    demand = demand_at network (node_offset f network i + 4 + f.route + f.route);
  }

  abbrev pub input_in : Input Route
  input_in = record { id = node_id f network i; assumed = route_at f.route network (node_offset f network i + 3) }

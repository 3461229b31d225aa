-- A node or an edge that is laid down from the bytes of other records, and what is asked of those bytes. w is the width of a route.
use Rattle.std.specs.Prelude.{ℕ, ◌+◌, ◌≤◌, true, List, ◌≡◌, length}
use Rattle.std.proofs.Math.Option.{some}
use Rattle.lists.specs.Bytes.{Bytes}
use Rattle.numbers.specs.BigEndian.{u16_at}
use Rattle.routes.specs.Form.{route_at, route_formed}
use Rattle.routes.specs.declared.Demand.{Demand}
use Rattle.routes.specs.declared.Route.{Route}
use Rattle.networks.specs.Network.{Box, own}
use Rattle.layout.specs.Form.{Usable, node_width}
use Rattle.nodes.specs.Node.{kind_at, route_field, demand_field, node_formed}
use Rattle.layout.specs.declared.Form.{Form}
use Rattle.reading.specs.Parts.{demand_at}

-- the own node at o of b, with another promise
unfoldable pub promised_at : ℕ → List ℕ → ℕ → Route → Box Route Demand
promised_at w b o r = own (record { id = u16_at b o; initial = route_at w b (route_field o); promise = some r; demand = demand_at b (demand_field w o) })

-- the bytes of b at o are a well-formed node
pub record NodeAt (f : Form) (b : List ℕ) (o : ℕ) : Type 0 where
  pub usable : Usable f
  pub bytes : Bytes b
  pub there : o + node_width f ≤ length b
  pub formed : node_formed f.route b o ≡ true

-- and it is an own one
pub record OwnAt (f : Form) (b : List ℕ) (o : ℕ) : Type 0 where
  pub node : NodeAt f b o
  pub ours : kind_at f.route b o ≡ 0

-- the bytes of b at o are a well-formed route
pub record RouteAt (f : Form) (b : List ℕ) (o : ℕ) : Type 0 where
  pub usable : Usable f
  pub bytes : Bytes b
  pub there : o + f.route ≤ length b
  pub formed : route_formed f.route b o ≡ true

-- the bytes of b at o are an edge
pub record EdgeAt (b : List ℕ) (o : ℕ) : Type 0 where
  pub bytes : Bytes b
  pub there : o + 5 ≤ length b

-- What is asked of a row of a network a by what the network b says of its id (document 02, K3).
--     owned_once      21: no box is owned by both
--     row_matched     22: what is assumed finds its equal
--     in_other        the id is one of b's
use Rattle.std.specs.Prelude.{ℕ, ◌+◌, Bool, not, ◌&&◌, ◌||◌, List}
use Rattle.routes.specs.Carry.{highest}
use Rattle.routes.specs.Form.{route_at}
use Rattle.networks.specs.Join.{matched}
use Rattle.networks.specs.Network.{box}
use Rattle.layout.specs.Layout.{node_offset}
use Rattle.layout.specs.declared.Form.{Form}
use Rattle.nodes.specs.Node.{node_id, is_own}
use Rattle.records.specs.Edge.{boxed, owned}
use Rattle.reading.specs.House.{house}
use Rattle.reading.specs.Whole.{read_network}

module _ (f : Form) (a b : List ℕ) (i : ℕ) where
  unfoldable pub owned_once : Bool
  owned_once = not (is_own f a i && owned f b (node_id f a i))

  -- No law of routes is used in it but their equality, so that the highest cost does not matter.
  unfoldable pub row_matched : Bool
  row_matched = is_own f a i || matched (house highest) (route_at f.route a (node_offset f a i + 3)) (box (read_network f b) (node_id f a i))

  unfoldable pub in_other : Bool
  in_other = boxed f b (node_id f a i)

-- What is counted of a box under a list, and of the node in a row.
--     own_counted, input_counted, counted     of an own box, of an input, of a box
--     counted_at, counted_in                  of the node in a row, and of all nodes
use Rattle.std.specs.Prelude.{Bool, true, false, not, List, ℕ}
use Rattle.lists.specs.Answer.{is_some}
use Rattle.lists.specs.Filter.{holds}
use Rattle.lists.specs.Gather.{count}
use Rattle.routes.specs.Carry.{highest}
use Rattle.routes.specs.declared.Demand.{Demand}
use Rattle.routes.specs.declared.Route.{Route}
use Rattle.networks.specs.Network.{Own, Input, Box, own, input}
use Rattle.networks.specs.Silence.{is_route, silent, overlooked}
use Rattle.layout.specs.Layout.{node_count, node_offset}
use Rattle.layout.specs.declared.Form.{Form}
use Rattle.reading.specs.Asking.{asks_route, house_asking}
use Rattle.reading.specs.House.{house}
use Rattle.reading.specs.Parts.{box_at}
use Rattle.reading.specs.Whole.{HouseList, read_list}
use Rattle.counting.specs.declared.Counted.{Counted}
use Rattle.counting.specs.declared.Counted.TheVariants.{Holding, Inputs, Assumed, Promises, Promised, Asked, Silent}

unfoldable pub own_counted : Counted → HouseList → Own Route Demand → Bool
own_counted Holding L b = not (silent (house highest) L b)
own_counted Inputs L b = false
own_counted Assumed L b = false
own_counted Promises L b = is_some b.promise
own_counted Promised L b = holds (is_route (house highest)) b.promise
own_counted Asked L b = asks_route b.demand
own_counted Silent L b = overlooked (house highest) house_asking L b

unfoldable pub input_counted : Counted → Input Route → Bool
input_counted Holding a = false
input_counted Inputs a = true
input_counted Assumed a = is_route (house highest) a.assumed
input_counted Promises a = false
input_counted Promised a = false
input_counted Asked a = false
input_counted Silent a = false

abbrev pub counted : Counted → HouseList → Box Route Demand → Bool
counted what L (own b) = own_counted what L b
counted what L (input a) = input_counted what a

-- what is counted of the node in row i
unfoldable pub counted_at : Form → List ℕ → List ℕ → Counted → ℕ → Bool
counted_at f network list what i = counted what (read_list f list) (box_at f.route network (node_offset f network i))

-- how many nodes are counted
unfoldable pub counted_in : Form → List ℕ → List ℕ → Counted → ℕ
counted_in f network list what = count (counted_at f network list what) (node_count network)

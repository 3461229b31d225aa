-- The counts by rows are those of the census of what the records say: boxes are the rows of the nodes, and each test of a box is the
-- test of its row.
--     tally_census      the counts
--     silent_census     the lines of the boxes that it names
--     pass_census       all of it, behind the judge's line
use mathlib.Core.Path.{◌≡◌, refl, sym, ap, ap₂, ◌∙◌, fun_ext}
use mathlib.Core.Bool.{Bool, true, false, cond}
use mathlib.Core.List.{List, [], ◌++◌, filter_map, filter_map-filter_map}
use mathlib.Core.Option.{Option, none, some, bind}
use Prim.Native.Nat.{ℕ}
use lib.ListN.{length}
use Rattle.lists.specs.Answer.{is_some}
use Rattle.lists.specs.Filter.{filter, holds}
use Rattle.lists.specs.Gather.{joined, laid_option}
use Rattle.lists.specs.Rows.{laid_rows}
use Rattle.lists.specs.Stride.{at}
use Rattle.lists.proofs.Filter.{length_kept, length_images, map_filter}
use Rattle.lists.proofs.Gather.{filter_rows, gathered_rows, gathered_laid}
use Rattle.routes.specs.Carry.{highest}
use Rattle.routes.specs.declared.Demand.{Demand}
use Rattle.routes.specs.declared.Route.{Route}
use Rattle.networks.specs.Network.{Own, Input, Box, own, input, box_id, as_own, as_input, own_boxes}
use Rattle.networks.specs.Silence.{Census, census, is_route, overlooked}
use Rattle.layout.specs.Form.{node_width}
use Rattle.layout.specs.Layout.{node_count, node_part, node_offset}
use Rattle.layout.specs.declared.Form.{Form}
use Rattle.nodes.specs.Node.{node_id}
use Rattle.reading.proofs.Said.{box_id_at}
use Rattle.reading.specs.Asking.{asks_route, house_asking}
use Rattle.reading.specs.House.{house}
use Rattle.reading.specs.Parts.{box_at}
use Rattle.reading.specs.Whole.{HouseNetwork, HouseList, read_network, read_list}
use Rattle.lines.specs.Line.{pass_line}
use Rattle.counting.specs.Counted.{own_counted, input_counted, counted, counted_at, counted_in}
use Rattle.counting.specs.Lines.{silent_line, tally_of, count_lines, census_lines}
use Rattle.counting.specs.Rows.{silent_row, pass_rows}
use Rattle.counting.specs.declared.Counted.{Counted}
use Rattle.counting.specs.declared.Counted.TheVariants.{Holding, Inputs, Assumed, Promises, Promised, Asked, Silent}

module _ (f : Form) (network list : List ℕ) where
  abbrev N : HouseNetwork
  N = read_network f network

  abbrev L : HouseList
  L = read_list f list

  abbrev taken : Census
  taken = census (house highest) N house_asking L

  -- a test of boxes, counted over the rows
  box_count : (test : Box Route Demand → Bool) (what : Counted) → ((v : Box Route Demand) → test v ≡ counted what L v)
      → length (filter test N.boxes) ≡ counted_in f network list what
  unfolding counted_in counted_at read_network node_offset
  box_count test what same =
      ap (λ (p : Box Route Demand → Bool). length (filter p N.boxes)) (fun_ext same)
      ∙ filter_rows (counted what L) (box_at f.route network) (node_width f) (node_part network) (node_count network)

  own_count : (test : Own Route Demand → Bool) (what : Counted) → ((v : Box Route Demand) → holds test (as_own v) ≡ counted what L v)
      → length (filter test (own_boxes N)) ≡ counted_in f network list what
  own_count test what same = length_kept test as_own N.boxes ∙ box_count (λ (v : Box Route Demand). holds test (as_own v)) what same

  -- each count
  holding_is : taken.holding ≡ counted_in f network list Holding
  unfolding census own_counted input_counted
  holding_is = own_count _ Holding (λ v. go v)
    where
      go : (v : Box Route Demand) → holds (own_counted Holding L) (as_own v) ≡ counted Holding L v
      go (own b) = refl
      go (input a) = refl

  inputs_is : taken.inputs ≡ counted_in f network list Inputs
  unfolding census own_counted input_counted
  inputs_is = length_images as_input N.boxes ∙ box_count _ Inputs (λ v. go v)
    where
      go : (v : Box Route Demand) → holds (λ (a : Input Route). true) (as_input v) ≡ counted Inputs L v
      go (own b) = refl
      go (input a) = refl

  assumed_is : taken.assumed ≡ counted_in f network list Assumed
  unfolding census own_counted input_counted
  assumed_is = length_kept _ as_input N.boxes ∙ box_count _ Assumed (λ v. go v)
    where
      go : (v : Box Route Demand) → holds (λ (a : Input Route). is_route (house highest) a.assumed) (as_input v) ≡ counted Assumed L v
      go (own b) = refl
      go (input a) = refl

  promises_is : taken.promises ≡ counted_in f network list Promises
  unfolding census own_counted input_counted
  promises_is = length_images (λ (b : Own Route Demand). b.promise) (own_boxes N) ∙ own_count _ Promises (λ v. go v)
    where
      some_held : (o : Option Route) → holds (λ (r : Route). true) o ≡ is_some o
      some_held none = refl
      some_held (some r) = refl

      go : (v : Box Route Demand) → holds (λ (b : Own Route Demand). holds (λ (r : Route). true) b.promise) (as_own v) ≡ counted Promises L v
      go (own b) = some_held b.promise
      go (input a) = refl

  promised_is : taken.promised ≡ counted_in f network list Promised
  unfolding census own_counted input_counted
  promised_is = length_kept (is_route (house highest)) (λ (b : Own Route Demand). b.promise) (own_boxes N) ∙ own_count _ Promised (λ v. go v)
    where
      go : (v : Box Route Demand) → holds (λ (b : Own Route Demand). holds (is_route (house highest)) b.promise) (as_own v) ≡ counted Promised L v
      go (own b) = refl
      go (input a) = refl

  asked_is : taken.asked ≡ counted_in f network list Asked
  unfolding census own_counted input_counted
  asked_is = own_count _ Asked (λ v. go v)
    where
      go : (v : Box Route Demand) → holds (λ (b : Own Route Demand). asks_route b.demand) (as_own v) ≡ counted Asked L v
      go (own b) = refl
      go (input a) = refl

  pub tally_census : (boxes : ℕ) → boxes ≡ length (own_boxes N)
      → tally_of f network list boxes ≡ record {
        boxes = taken.boxes;
        holding = taken.holding;
        inputs = taken.inputs;
        assumed = taken.assumed;
        promises = taken.promises;
        promised = taken.promised;
        asked = taken.asked;
      }
  unfolding tally_of census
  tally_census boxes e = rw (e, ← holding_is, ← inputs_is, ← assumed_is, ← promises_is, ← promised_is, ← asked_is)

  -- the boxes that it names
  abbrev named : Box Route Demand → Option ℕ
  named v = cond (counted Silent L v) (some (box_id v)) none

  named_ids : taken.silent ≡ filter_map named N.boxes
  unfolding census own_counted input_counted bind
  named_ids =
      map_filter (λ (b : Own Route Demand). b.id) (overlooked (house highest) house_asking L) (own_boxes N)
      ∙ filter_map-filter_map as_own (λ (b : Own Route Demand). cond (overlooked (house highest) house_asking L b) (some b.id) none) N.boxes
      ∙ ap (λ (g : Box Route Demand → Option ℕ). filter_map g N.boxes) (fun_ext (λ v. go v))
    where
      go : (v : Box Route Demand) → bind (as_own v) (λ (b : Own Route Demand). cond (overlooked (house highest) house_asking L b) (some b.id) none) ≡ named v
      go (own b) = refl
      go (input a) = refl

  pub silent_census : laid_rows silent_line taken.silent ≡ joined (silent_row f network list) (node_count network)
  unfolding silent_row counted_at read_network node_offset node_id
  silent_census =
      ap (laid_rows silent_line) (named_ids ∙ gathered_rows named (box_at f.route network) (node_width f) (node_part network) (node_count network))
      ∙ gathered_laid silent_line (λ i. named (box_at f.route network (at (node_part network) (node_width f) i))) (node_count network)
      ∙ ap (λ (run : ℕ → List ℕ). joined run (node_count network)) (fun_ext (λ i. go (box_at f.route network (at (node_part network) (node_width f) i)) _ (box_id_at f.route network _)))
    where
      laid : (t : Bool) (id : ℕ) → laid_option silent_line (cond t (some id) none) ≡ cond t (silent_line id) []
      laid true id = refl
      laid false id = refl

      go : (v : Box Route Demand) (id : ℕ) → box_id v ≡ id → laid_option silent_line (named v) ≡ cond (counted Silent L v) (silent_line id) []
      go v id e = rw (← e) (laid (counted Silent L v) (box_id v))

  pub pass_census : (boxes : ℕ) → boxes ≡ length (own_boxes N) → pass_rows f network list (tally_of f network list boxes) ≡ pass_line boxes ++ census_lines taken
  unfolding pass_rows census_lines tally_of
  pass_census boxes e = ap₂ (λ (x y : List ℕ). pass_line boxes ++ (x ++ y)) (ap count_lines (tally_census boxes e)) (sym silent_census)

-- What is counted of a row, as the code finds it: a box's route by the part that the lookup hands back, its promise and its demand by
-- their bytes.
--     routes                     whether a route is there
--     carrying                   whether the node in a row holds one
--     promising_routes           whether a promise is of a route
--     asking_routes, asking_none what a demand asks
--     overlooking                silence that nobody asked for
--     owning, assuming, rowing   an own box, an input, a row
--     Counting, countings        the loop over the rows
use mathlib.Core.Path.{◌≡◌, refl, sym, ap, ◌∙◌}
use mathlib.Core.Bool.{Bool, true, false, not, cond}
use mathlib.Core.List.{List}
use mathlib.Core.Option.{none, some}
use Prim.Native.Nat.{ℕ, ◌+◌, ◌^◌, ◌≤◌, ◌<◌}
use native.Mathlib.Omega.{arith}
use lib.Dec.{eqb}
use lib.ListN.{length, get_or}
use mir.Syntax.{w64}
use mir.Val.{Fits}
use borrow.Author.Tests.{not-true, not-false}
use Rattle.lists.specs.Answer.{is_some}
use Rattle.lists.specs.Filter.{holds}
use Rattle.lists.specs.Gather.{count}
use Rattle.lists.proofs.Gather.{count_none, count_next, count_le}
use Rattle.routes.specs.Carry.{highest}
use Rattle.routes.specs.Form.{route_at}
use Rattle.routes.specs.Order.{same}
use Rattle.routes.specs.declared.Demand.{Demand}
use Rattle.routes.specs.declared.Demand.TheVariants.{Nothing, Hold, HoldNone}
use Rattle.routes.specs.declared.Fields.{Fields}
use Rattle.routes.specs.declared.Route.{Route}
use Rattle.routes.specs.declared.Route.TheVariants.{None, Held}
use Rattle.networks.specs.Judge.{held as judge_held}
use Rattle.networks.specs.Silence.{is_route}
use Rattle.networks.specs.Solution.{mapping}
use Rattle.layout.proofs.Places.{node_fields_room}
use Rattle.layout.specs.Layout.{node_count, node_offset}
use Rattle.layout.specs.declared.Form.{Form}
use Rattle.nodes.specs.Node.{node_id, is_own, promising, demand_of}
use Rattle.reading.proofs.Said.{own_row, input_row, demand_row}
use Rattle.reading.specs.Asking.{asks_route, asks_none}
use Rattle.reading.specs.House.{house}
use Rattle.reading.specs.Parts.{promise_at, demand_at}
use Rattle.reading.specs.Rows.{own_in, input_in}
use Rattle.reading.specs.Whole.{read_network, read_list}
use Rattle.preparing.specs.Parts.{row_part}
use Rattle.preparing.specs.Prepared.{Listed, Standing}
use Rattle.preparing.proofs.PartLaws.{row_long, row_route}
use Rattle.preparing.proofs.PreparedLaws.{standing_listed}
use Rattle.preparing.proofs.Said.{mapping_own, mapping_input}
use Rattle.counting.specs.Counted.{own_counted, input_counted, counted, counted_at, counted_in}
use Rattle.counting.specs.declared.Counted.{Counted}
use Rattle.counting.specs.declared.Counted.TheVariants.{Holding, Inputs, Assumed, Promises, Promised, Asked, Silent}

-- whether a route is there
abbrev there : Route → Bool
there r = is_route (house highest) r

module _ (r : Route) where
  pub route_off : r ≡ None → false ≡ there r
  unfolding same
  route_off e = rw e

  pub route_on : (f : Fields) → r ≡ Held f → true ≡ there r
  unfolding same
  route_on f e = rw e

pub ruleset routes = (route_off, route_on)

-- the node in a row holds what the lookup hands back
module _ (f : Form) (network list stands : List ℕ) (h : Standing f network list stands) where
  listed : Listed f network list
  listed = standing_listed f network list stands h

  module _ (i : ℕ) (l : i < node_count network) where
    abbrev held : Route
    held = mapping (house highest) (read_network f network) (read_list f list) (node_id f network i)

    pub carry_node_room : (o : ℕ) → o ≡ node_offset f network i → o + (9 + f.route + f.route) ≤ length network
    carry_node_room o e = omega (arith, node_fields_room f network listed.checked.room i l)

    module _ (x : List ℕ) (g : x ≡ row_part f network list i) where
      pub carry_room : 0 + f.route ≤ length x
      carry_room = let e = ap length g ∙ row_long f network list i listed.checked.room listed.entries.formed l (listed.entered i l) in omega arith

      pub carried : (s : Route) (t : Bool) → s ≡ route_at f.route x 0 → t ≡ there s → t ≡ there held
      carried s t q e = e ∙ ap there (q ∙ ap (λ (b : List ℕ). route_at f.route b 0) g
          ∙ row_route f network list i listed.checked.room listed.entries.formed l (listed.entered i l) listed.checked.rising)

pub ruleset carrying = (carry_room, carried)

-- a promise, by its flag and its route
module _ (f : Form) (b : List ℕ) (o : ℕ) (p : Bool) (q : p ≡ promising f.route b o) where
  abbrev promise_at_lem : ℕ
  promise_at_lem = o + 3 + f.route

  unset : p ≡ false → eqb (get_or b (o + 3 + f.route) 0) 0 ≡ true
  unfolding promising
  unset z = not-false _ (sym q ∙ z)

  set : p ≡ true → eqb (get_or b (o + 3 + f.route) 0) 0 ≡ false
  unfolding promising
  set z = not-true _ (sym q ∙ z)

  pub promise_off : p ≡ false → p ≡ holds there (promise_at f.route b (o + 3 + f.route))
  unfolding promise_at
  promise_off z = z ∙ rw (unset z)

  pub promise_on : (s : Route) (t : Bool) → p ≡ true → s ≡ route_at f.route b (o + 4 + f.route) → t ≡ there s
      → t ≡ holds there (promise_at f.route b (o + 3 + f.route))
  unfolding promise_at
  promise_on s t z k e = let here : o + 3 + f.route + 1 ≡ o + 4 + f.route = omega arith in rw (set z, here) (e ∙ ap there k)

pub promise_fits : (f : Form) (b : List ℕ) (o : ℕ) → o + (9 + f.route + f.route) ≤ length b → length b < 2 ^ 64 → Fits w64 (o + 4)
promise_fits f b o h g = omega arith

pub ruleset promising_routes = (promise_off, promise_on, promise_fits)

-- what a demand asks
module _ (f : Form) (b : List ℕ) (o : ℕ) (d : Demand) (e : d ≡ demand_of f.route b o) where
  abbrev demand : Demand
  demand = demand_at b (o + 4 + f.route + f.route)

  is : d ≡ demand
  is = e ∙ demand_row f.route b o

  pub route_hold : (c t : ℕ) → d ≡ Hold c t → true ≡ asks_route demand
  route_hold c t q = rw (← is, q)

  pub route_other : ((c t : ℕ) → d ≡ Hold c t → ⊥) → false ≡ asks_route demand
  route_other n = rw (← is) (go d n)
    where
      go : (x : Demand) → ((c t : ℕ) → x ≡ Hold c t → ⊥) → false ≡ asks_route x
      go Nothing m = refl
      go (Hold c t) m = absurd (m c t refl)
      go HoldNone m = refl

  pub none_none : d ≡ HoldNone → true ≡ asks_none demand
  none_none q = rw (← is, q)

  pub none_other : (d ≡ HoldNone → ⊥) → false ≡ asks_none demand
  none_other n = rw (← is) (go d n)
    where
      go : (x : Demand) → (x ≡ HoldNone → ⊥) → false ≡ asks_none x
      go Nothing m = refl
      go (Hold c t) m = refl
      go HoldNone m = absurd (m refl)

pub ruleset asking_routes = (route_hold, route_other)

pub ruleset asking_none = (none_none, none_other)

-- what is counted of inputs alone
module _ (what : Counted) (f : Form) (network list : List ℕ) (i : ℕ) where
  pub own_inputs : what ≡ Inputs → false ≡ own_counted what (read_list f list) (own_in f network i)
  unfolding own_counted
  own_inputs w = rw w

  pub own_assumed : what ≡ Assumed → false ≡ own_counted what (read_list f list) (own_in f network i)
  unfolding own_counted
  own_assumed w = rw w

-- an own box in a row
module _ (f : Form) (network list stands : List ℕ) (h : Standing f network list stands) (i : ℕ) (l : i < node_count network) where
  module _ (own : is_own f network i ≡ true) where
    holds_listed : (t : Bool) → t ≡ there (held f network list stands h i l) → t ≡ own_counted Holding (read_list f list) (own_in f network i)
    unfolding own_counted
    holds_listed t e = e ∙ ap there (mapping_own f network list (listed f network list stands h).checked.rising i l own)

    abbrev silence : Bool
    silence = same (judge_held (house highest) (read_list f list) (node_id f network i)) None

    module _ (t : Bool) (e : t ≡ there (held f network list stands h i l)) where
      pub overlooked_off : not t ≡ false → not t ≡ own_counted Silent (read_list f list) (own_in f network i)
      unfolding own_counted
      overlooked_off q = let s = not-true silence (sym (holds_listed t e) ∙ not-false t q) in q ∙ rw s

      pub overlooked_on : (o : ℕ) (u : Bool) → not t ≡ true → o ≡ node_offset f network i → u ≡ asks_none (demand_at network (o + 4 + f.route + f.route))
          → not u ≡ own_counted Silent (read_list f list) (own_in f network i)
      unfolding own_counted
      overlooked_on o u q z y = let s = not-false silence (sym (holds_listed t e) ∙ not-true t q) in rw (s, ← z) (ap not y)

      pub own_holding : (what : Counted) → what ≡ Holding → t ≡ own_counted what (read_list f list) (own_in f network i)
      own_holding what w = rw w (holds_listed t e)

    module _ (what : Counted) (t : Bool) where
      pub own_silent : what ≡ Silent → t ≡ own_counted Silent (read_list f list) (own_in f network i) → t ≡ own_counted what (read_list f list) (own_in f network i)
      own_silent w e = rw w e

      module _ (o : ℕ) (z : o ≡ node_offset f network i) where
        pub own_promises : what ≡ Promises → t ≡ promising f.route network o → t ≡ own_counted what (read_list f list) (own_in f network i)
        unfolding own_counted promise_at promising
        own_promises w e = rw w (e ∙ rw z (go (eqb (get_or network (node_offset f network i + 3 + f.route) 0) 0)))
          where
            go : (a : Bool) → not a ≡ is_some (cond a none (some (route_at f.route network (node_offset f network i + 3 + f.route + 1))))
            go true = refl
            go false = refl

        pub own_promised : what ≡ Promised → t ≡ holds there (promise_at f.route network (o + 3 + f.route)) → t ≡ own_counted what (read_list f list) (own_in f network i)
        unfolding own_counted
        own_promised w e = rw w (e ∙ rw z)

        pub own_asked : what ≡ Asked → t ≡ asks_route (demand_at network (o + 4 + f.route + f.route)) → t ≡ own_counted what (read_list f list) (own_in f network i)
        unfolding own_counted
        own_asked w e = rw w (e ∙ rw z)

    pub row_own : (what : Counted) (t : Bool) → t ≡ own_counted what (read_list f list) (own_in f network i) → t ≡ counted_at f network list what i
    unfolding counted_at
    row_own what t e = e ∙ ap (counted what (read_list f list)) (sym (own_row f network i own))

  -- an input in a row
  module _ (other : is_own f network i ≡ false) (what : Counted) where
    pub input_holding : what ≡ Holding → false ≡ input_counted what (input_in f network i)
    unfolding input_counted
    input_holding w = rw w

    pub input_inputs : what ≡ Inputs → true ≡ input_counted what (input_in f network i)
    unfolding input_counted
    input_inputs w = rw w

    pub input_assumed : (t : Bool) → what ≡ Assumed → t ≡ there (held f network list stands h i l) → t ≡ input_counted what (input_in f network i)
    unfolding input_counted
    input_assumed t w e = rw w (e ∙ ap there (mapping_input f network list (listed f network list stands h).checked.rising i l other))

    pub input_promises : what ≡ Promises → false ≡ input_counted what (input_in f network i)
    unfolding input_counted
    input_promises w = rw w

    pub input_promised : what ≡ Promised → false ≡ input_counted what (input_in f network i)
    unfolding input_counted
    input_promised w = rw w

    pub input_asked : what ≡ Asked → false ≡ input_counted what (input_in f network i)
    unfolding input_counted
    input_asked w = rw w

    pub input_silent : what ≡ Silent → false ≡ input_counted what (input_in f network i)
    unfolding input_counted
    input_silent w = rw w

    pub row_input : (t : Bool) → t ≡ input_counted what (input_in f network i) → t ≡ counted_at f network list what i
    unfolding counted_at
    row_input t e = e ∙ ap (counted what (read_list f list)) (sym (input_row f network i other))

pub ruleset overlooking = (carry_node_room, overlooked_off, overlooked_on)

pub ruleset owning = (carry_node_room, own_holding, own_inputs, own_assumed, own_silent, own_promises, own_promised, own_asked)

pub ruleset assuming = (input_holding, input_inputs, input_assumed, input_promises, input_promised, input_asked, input_silent)

module _ (f : Form) (network : List ℕ) (i : ℕ) (t : Bool) (q : t ≡ is_own f network i) where
  pub row_ours : t ≡ true → is_own f network i ≡ true
  row_ours e = sym q ∙ e

  pub row_theirs : t ≡ false → is_own f network i ≡ false
  row_theirs e = sym q ∙ e

pub ruleset rowing = (row_ours, row_theirs, row_own, row_input)

-- what the loop over the rows knows
pub record Counting (f : Form) (network list : List ℕ) (what : Counted) (n i so_far : ℕ) : Type 0 where
  pub within : i ≤ n
  pub counts : so_far ≡ count (counted_at f network list what) i

module _ (f : Form) (network list : List ℕ) (what : Counted) (n : ℕ) where
  pub counting_start : Counting f network list what n 0 0
  counting_start = record { within = omega arith; counts = count_none _ }

  module _ (i so_far : ℕ) (s : Counting f network list what n i so_far) where
    pub counting_end : n ≤ i → n ≡ node_count network → so_far ≡ counted_in f network list what
    unfolding counted_in
    counting_end l q = let e : i ≡ node_count network = let w = s.within in omega arith in s.counts ∙ ap (count (counted_at f network list what)) e

    pub counting_fits : Fits w64 n → i < n → Fits w64 (so_far + 1)
    counting_fits g l = let w = s.counts in omega (arith, count_le (counted_at f network list what) i)

    module _ (l : i < n) (t : Bool) (q : t ≡ counted_at f network list what i) where
      pub counting_on : t ≡ true → Counting f network list what n (i + 1) (so_far + 1)
      counting_on e = record { within = omega arith; counts = rw (s.counts, count_next (counted_at f network list what) i, ← q, e) }

      pub counting_off : t ≡ false → Counting f network list what n (i + 1) so_far
      counting_off e = record { within = omega arith; counts = rw (s.counts, count_next (counted_at f network list what) i, ← q, e) (omega arith) }

pub ruleset countings = (counting_start, counting_end, counting_fits, counting_on, counting_off)

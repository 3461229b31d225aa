-- What the two loops of the search keep, and one law for each way through them.
--     Next, Ahead               the next wire; a sound network's wires lead to own boxes, so that none is passed over
--     Searching, searching      the outer loop, before the box in row i
--     Wiring, wiring            the inner loop, at the own box in a row
use mathlib.Core.Path.{◌≡◌, refl, sym, ap, ◌∙◌, subst}
use mathlib.Core.Bool.{Bool, true, false, not}
use mathlib.Core.List.{List}
use mathlib.Core.Logic.{⊎_elim}
use mathlib.Core.Option.{none, some}
use mathlib.Core.Option as maybe
use Rattle.std.proofs.Common.{Option, Some, None}
use Prim.Native.Nat.{ℕ, zero, suc, ◌+◌, ◌-◌, ◌≤◌, ◌<◌, zero-le}
use native.Mathlib.Nat.{not-suc-le-zero, eq-or-lt_of_le, le_of_suc-le-suc}
use native.Mathlib.Omega.{arith}
use lib.Dec.{leb}
use lib.ListN.{length}
use mir.Syntax.{w64}
use mir.Val.{Fits}
use borrow.Author.Tests.{leb-true, not-true, not-false}
use Rattle.lists.specs.Best.{best}
use Rattle.lists.specs.Rising.{Rising, least}
use Rattle.lists.proofs.Rising.{least_next}
use Rattle.lists.proofs.Test.{and_l, and_r, le_or_lt}
use Rattle.routes.specs.Form.{route_at}
use Rattle.routes.specs.Order.{beats}
use Rattle.routes.specs.declared.Route.{Route}
use Rattle.lists.specs.Answer.{given}
use Rattle.reading.specs.House.{house}
use Rattle.networks.specs.Judge.{Finding, pass, found, held}
use Rattle.records.specs.Edge.{boxed, owned, edge_to}
use Rattle.layout.specs.Layout.{node_count, edge_count, node_offset, edge_part}
use Rattle.nodes.specs.Node.{node_id, node_ok, node_formed, row_of, is_own}
use Rattle.layout.proofs.Places.{edge_first}
use Rattle.records.proofs.RowLaws.{row_within, row_found}
use Rattle.layout.specs.declared.Form.{Form}
use Rattle.reading.specs.Whole.{read_list}
use Rattle.reading.proofs.Said.{Edge, edge_parts}
use Rattle.boxes.specs.OwnBox.{finding_of}
use Rattle.records.specs.Checked.{CheckedNetwork}
use Rattle.routes.specs.Carry.{highest}
use Rattle.judging.specs.Judging.{verdict_at}
use Rattle.boxes.specs.OwnBox.{own_box_at, fault_of}
use Rattle.boxes.specs.Wires.{WireAt, next_from, offer_at}
use Rattle.boxes.specs.declared.Fault.{Fault}
use Rattle.boxes.specs.declared.Fault.TheVariants.{Due, Promise, Demand}
use Rattle.boxes.specs.declared.NextWire.{NextWire}
use Rattle.boxes.specs.declared.OwnBox.{OwnBox}
use Rattle.judging.proofs.LeftLaws.{stopped_at, Skipped, DueFrom, Left, skip_start, left_start, wire_skips, wire_due, due_past, skip_more, due_start, left_end, left_input, left_fault}
use Rattle.boxes.proofs.IntoLaws.{to_climbs, leads_here, leads_elsewhere, NextAt, next_at, next_there, next_into, next_wire, next_less, next_next, next_past}

-- The next wire is the j-th, and those before it lead to boxes below lo.
pub record Next (f : Form) (network list : List ℕ) (wire : NextWire) (lo j : ℕ) : Type 0 where
  pub at : NextAt f network wire j
  pub skipped : Skipped f network list j lo

-- The wires from the j-th on lead to boxes from an id on.
abbrev pub Ahead : Form → List ℕ → ℕ → ℕ → Type 0
Ahead f network lo j = j < edge_count network → lo ≤ edge_to f network j

-- The verdict from here is the verdict from the start.
pub record SearchingFacts (f : Form) (network list : List ℕ) (n i count : ℕ) (wire : NextWire) : Type 0 where
  pub checked : CheckedNetwork f network
  pub within : i ≤ n
  pub nodes : n ≡ node_count network
  pub counted : count ≤ i
  pub left : Left f network list i count
  pub j : ℕ
  pub next : Next f network list wire (least (node_id f network) i) j
  pub ahead : Ahead f network (least (node_id f network) i) j

-- What the wires that are left make of the route u is the due route of the box in a row.
pub record WiringFacts (f : Form) (network list : List ℕ) (n count row node : ℕ) (u : Route) (wire : NextWire) : Type 0 where
  pub checked : CheckedNetwork f network
  pub there : row < n
  pub nodes : n ≡ node_count network
  pub own : is_own f network row ≡ true
  pub named : node ≡ node_id f network row
  pub before : ℕ
  pub counts : count ≡ before + 1
  pub counted : before ≤ row
  pub left : Left f network list row before
  pub j : ℕ
  pub next : Next f network list wire (node + 1) j
  pub ahead : Ahead f network node j
  pub due : DueFrom f network list node (route_at f.route network (node_offset f network row + 3)) u j

-- Both are shut, so that the loops carry them whole.
unfoldable pub Searching : Form → List ℕ → List ℕ → ℕ → ℕ → ℕ → NextWire → Type 0
Searching f network list n i count wire = SearchingFacts f network list n i count wire

unfoldable pub Wiring : Form → List ℕ → List ℕ → ℕ → ℕ → ℕ → ℕ → Route → NextWire → Type 0
Wiring f network list n count row node u wire = WiringFacts f network list n count row node u wire

-- an id before place i is below the least that may stand there
least_above : (ids : ℕ → ℕ) (n r i : ℕ) → Rising ids n → r < i → i ≤ n → ids r < least ids i
unfolding Rising least
least_above ids n r zero h l m = absurd (not-suc-le-zero l)
least_above ids n r (suc k) h l m = ⊎_elim
    (λ (e : r ≡ k). rw e (omega arith))
    (λ (g : r < k). let z = h r k g (omega arith) in omega arith)
    (eq-or-lt_of_le (le_of_suc-le-suc l))

module _ (f : Form) (network : List ℕ) (checked : CheckedNetwork f network) where
  ids_rise : (i : ℕ) → i < node_count network → least (node_id f network) i ≤ node_id f network i
  unfolding node_ok
  ids_rise i l =
      leb-true _ _
      (and_l (leb (least (node_id f network) i) (node_id f network i)) (node_formed f.route network (node_offset f network i)) (checked.sound.nodes i l))

  edge : (j : ℕ) → j < edge_count network → Edge f network j
  edge j l = edge_parts f network j (checked.sound.edges j l)

  -- the wires lead to own boxes, and so to none between two boxes
  module _ (i j : ℕ) (l : i < node_count network) (a : Ahead f network (least (node_id f network) i) j) (m : j < edge_count network) where
    abbrev to_row : ℕ
    to_row = row_of f network (edge_to f network j)

    to_boxed : boxed f network (edge_to f network j) ≡ true
    unfolding owned
    to_boxed = and_l (boxed f network (edge_to f network j)) (is_own f network to_row) (edge j m).to_own

    to_own : is_own f network to_row ≡ true
    unfolding owned
    to_own = and_r (boxed f network (edge_to f network j)) (is_own f network to_row) (edge j m).to_own

    to_from : i ≤ to_row
    to_from = ⊎_elim (λ g. g)
        (λ (g : to_row < i). absurd (let z = a m in
        omega (arith, least_above (node_id f network) (node_count network) to_row i checked.rising g (omega arith), row_found f network (edge_to f network j) to_boxed)))
        (le_or_lt i to_row)

    above : i < to_row → node_id f network i < edge_to f network j
    unfolding Rising
    above g =
        let z = checked.rising i to_row g (row_within f network (edge_to f network j) to_boxed) in
        omega (arith, row_found f network (edge_to f network j) to_boxed)

    box_ahead : node_id f network i ≤ edge_to f network j
    box_ahead = ⊎_elim
        (λ (g : i ≡ to_row). let z = row_found f network (edge_to f network j) to_boxed in rw g (omega arith))
        (λ (g : i < to_row). let z = above g in omega arith)
        (eq-or-lt_of_le to_from)

    input_ahead : is_own f network i ≡ false → least (node_id f network) (i + 1) ≤ edge_to f network j
    input_ahead q = ⊎_elim
        (λ (g : i ≡ to_row). absurd (let z : true ≡ false = sym to_own ∙ ap (is_own f network) (sym g) ∙ q in let y : ◌≡◌ {A = ℕ} 0 1 = cc in omega arith))
        (λ (g : i < to_row). let z = above g in let e = least_next (node_id f network) i in omega arith)
        (eq-or-lt_of_le to_from)

module _ (f : Form) (network list : List ℕ) where
  pub search_start : (n : ℕ) (wire : NextWire) → CheckedNetwork f network → n ≡ node_count network → wire ≡ next_from network (edge_part f network)
      → Searching f network list n 0 0 wire
  unfolding Searching least
  search_start n wire h p e = record {
    checked = h;
    within = zero-le;
    nodes = p;
    counted = zero-le;
    left = left_start f network list;
    j = 0;
    next = record { at = record { within = zero-le; is = e ∙ ap (next_from network) (sym (edge_first f network)) }; skipped = skip_start f network list _ };
    ahead = λ l. zero-le;
  }

  module _ (n i count : ℕ) (wire : NextWire) (kept : Searching f network list n i count wire) where
    s : SearchingFacts f network list n i count wire
    unfolding Searching
    s = kept

    checked : CheckedNetwork f network
    checked = s.checked

    pub search_pass : n ≤ i → given (pass count) ≡ verdict_at f network list
    search_pass l = left_end f network list i count s.left (let e = s.nodes in omega arith)

    module _ (l : i < n) where
      pub search_row : i < node_count network
      search_row = let e = s.nodes in omega arith

      pub search_count : n < 65536 → Fits w64 (count + 1)
      search_count b = let c = s.counted in omega arith

      module _ (t : Bool) (w : t ≡ is_own f network i) where
        pub search_input : not t ≡ true → Searching f network list n (i + 1) count wire
        unfolding Searching
        search_input y =
            let r = ids_rise f network checked i search_row in
            let e = least_next (node_id f network) i in
            let up : least (node_id f network) i ≤ least (node_id f network) (i + 1) = omega arith in
            record {
              checked = s.checked;
              within = omega arith;
              nodes = s.nodes;
              counted = let c = s.counted in omega arith;
              left = left_input f network list i count s.left search_row (sym w ∙ not-true t y);
              j = s.j;
              next = record { at = s.next.at; skipped = skip_more f network list s.j _ _ up s.next.skipped };
              ahead = λ m. input_ahead f network checked i s.j search_row s.ahead m (sym w ∙ not-true t y);
            }

        pub search_wires : (own : OwnBox) → not t ≡ false → own ≡ own_box_at f network i
            → Wiring f network list n (count + 1) i own.node own.initial wire
        unfolding Wiring own_box_at
        search_wires own y p =
            let named : own.node ≡ node_id f network i = ap (λ (b : OwnBox). b.node) p in
            let low : least (node_id f network) i ≤ own.node = let r = ids_rise f network checked i search_row in omega arith in
            record {
              checked = s.checked;
              there = l;
              nodes = s.nodes;
              own = sym w ∙ not-false t y;
              named = named;
              before = count;
              counts = refl;
              counted = s.counted;
              left = s.left;
              j = s.j;
              next = record { at = s.next.at; skipped = skip_more f network list s.j _ _ (omega arith) s.next.skipped };
              ahead = λ m. let z = box_ahead f network checked i s.j search_row s.ahead m in omega arith;
              due = subst (λ (r : Route). DueFrom f network list own.node r own.initial s.j) (ap (λ (b : OwnBox). b.initial) p)
                  (due_start f network list own.node s.j _ own.initial low s.next.skipped);
            }

-- at the own box in a row
module _ (f : Form) (network list : List ℕ) (n count row node : ℕ) (u : Route) (wire : NextWire)
    (kept : Wiring f network list n count row node u wire) where
  w : WiringFacts f network list n count row node u wire
  unfolding Wiring
  w = kept

  wiring_checked : CheckedNetwork f network
  wiring_checked = w.checked

  wiring_row : row < node_count network
  wiring_row = let e = w.nodes in let l = w.there in omega arith

  next : NextAt f network wire w.j
  next = w.next.at

  -- a wire into the box
  module _ (e : wire.to ≡ Some node) where
    there : w.j < edge_count network
    there = next_there f network wiring_checked wire w.j next node e

    mine : edge_to f network w.j ≡ node
    mine = next_into f network wiring_checked wire w.j next node e

    pub wiring_wire : WireAt f network wire.at
    wiring_wire = next_wire f network wiring_checked wire w.j next node e

    module _ (behind : NextWire) (g : behind ≡ next_from network (wire.at + 5)) where
      pub wiring_less : length network - behind.at < length network - wire.at
      wiring_less = next_less f network wiring_checked wire w.j next node e behind g

      pub wiring_next : (x : Route) → x ≡ best beats u (offer_at f network list wire.at) → Wiring f network list n count row node x behind
      unfolding Wiring
      wiring_next x y = record {
        checked = w.checked;
        there = w.there;
        nodes = w.nodes;
        own = w.own;
        named = w.named;
        before = w.before;
        counts = w.counts;
        counted = w.counted;
        left = w.left;
        j = w.j + 1;
        next = record {
          at = next_next f network wiring_checked wire w.j next node e behind g;
          skipped = wire_skips f network list w.j there node (let z = mine in omega arith) w.next.skipped;
        };
        ahead = λ m. let z = mine in omega (arith, to_climbs f network wiring_checked w.j (w.j + 1) (omega arith) m);
        due = wire_due f network list w.j there node _ u x mine (y ∙ ap (λ (o : ℕ). best beats u (offer_at f network list o)) (next_at f network wiring_checked wire w.j next)) w.due;
      }

  -- no further wire into the box
  module _ (ne : wire.to ≡ Some node → ⊥) where
    past : w.j < edge_count network → node < edge_to f network w.j
    past m = let z = next_past f network wiring_checked wire w.j next node ne (λ l. let a = w.ahead l in omega arith) m in omega arith

    -- what the fault at the box makes of the verdict
    at_fault : (o : maybe.Option (Finding Route)) → o ≡ fault_of f network row (held (house highest) (read_list f list) (node_id f network row)) u
        → stopped_at f network list o node (w.before + 1) (row + 1) ≡ verdict_at f network list
    at_fault o e = left_fault f network list row w.before w.left wiring_row w.own node _ _ u o w.named refl refl
        (due_past f network list wiring_checked node w.j _ u next.within past w.due) e

    module _ (r : Option Fault) (a : finding_of r ≡ fault_of f network row (held (house highest) (read_list f list) (node_id f network row)) u) where
      at_found : (number : ℕ) (route : Route) → some (record { number = number; route = route }) ≡ finding_of r
          → given (found number node route count) ≡ verdict_at f network list
      at_found number route e =
          ap (λ (c : ℕ). given (found number node route c)) w.counts
          ∙ at_fault (some (record { number = number; route = route })) (e ∙ a)

      pub wiring_due : (x : Fault) (route : Route) → r ≡ Some x → x ≡ Due route → given (found 31 node route count) ≡ verdict_at f network list
      wiring_due x route p q = at_found 31 route (ap finding_of (sym (p ∙ ap Some q)))

      pub wiring_promise : (x : Fault) (route : Route) → r ≡ Some x → x ≡ Promise route → given (found 32 node route count) ≡ verdict_at f network list
      wiring_promise x route p q = at_found 32 route (ap finding_of (sym (p ∙ ap Some q)))

      pub wiring_demand : (x : Fault) (route : Route) → r ≡ Some x → x ≡ Demand route → given (found 33 node route count) ≡ verdict_at f network list
      wiring_demand x route p q = at_found 33 route (ap finding_of (sym (p ∙ ap Some q)))

      pub wiring_end : r ≡ None → Searching f network list n (row + 1) count wire
      unfolding Searching
      wiring_end e =
          let up : node + 1 ≡ least (node_id f network) (row + 1) =
          ap (λ (m : ℕ). m + 1) w.named ∙ least_next (node_id f network) row in
          record {
            checked = w.checked;
            within = let l = w.there in omega arith;
            nodes = w.nodes;
            counted = let c = w.counted in let d = w.counts in omega arith;
            left = record { is = rw w.counts (at_fault none (ap finding_of (sym e) ∙ a)) };
            j = w.j;
            next = subst (λ (m : ℕ). Next f network list wire m w.j) up w.next;
            ahead = λ m. let z = past m in omega (arith, up);
          }

pub ruleset searching = (search_start, search_pass, search_row, search_count, search_input, search_wires)

pub ruleset wiring = (leads_here, leads_elsewhere, wiring_less, wiring_wire, wiring_next, wiring_due, wiring_promise, wiring_demand, wiring_end)

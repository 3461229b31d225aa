-- The refusals before the search, and the tables that each way through them leaves.
--     lacking, no_bare       17: the first own box without an entry, by the rows
--     entering               the entries are placed, and the table is filled from them
--     preparing              the network's refusals, the list's, and then 17
use mathlib.Core.Path.{◌≡◌, refl, sym, ap, ◌∙◌}
use mathlib.Core.Bool.{Bool, true, false, cond, not, ◌||◌}
use mathlib.Core.List.{List}
use mathlib.Core.Option.{Option, none, some, map}
use Prim.Native.Nat.{ℕ, ◌+◌, ◌≤◌, ◌<◌}
use native.Mathlib.Omega.{arith}
use lib.Dec.{eqb, ltb}
use lib.ListN.{length, get_or, replicate}
use borrow.Author.Tests.{lt-ltb, le-ltb, ltb-true}
use Rattle.lists.specs.Bytes.{Bytes}
use Rattle.lists.specs.First.{first_bad}
use Rattle.lists.specs.Gather.{table_after}
use Rattle.lists.specs.Rows.{rows}
use Rattle.lists.specs.Stride.{at}
use Rattle.lists.proofs.Table.{find_rows}
use Rattle.numbers.specs.BigEndian.{u16_at}
use Rattle.routes.specs.declared.Demand.{Demand}
use Rattle.routes.specs.declared.Route.{Route}
use Rattle.lists.specs.Answer.{is_some, given}
use Rattle.networks.specs.Judge.{judge_table}
use Rattle.networks.specs.Lowest.{unentered}
use Rattle.networks.specs.Network.{Own, Input, own, input}
use Rattle.networks.specs.Sheets.{ListEntry, listed}
use Rattle.entries.proofs.Fine.{none_bad}
use Rattle.layout.specs.Layout.{entry_count, entry_offset, node_count, node_part, node_offset}
use Rattle.entries.specs.Entries.{entry_id, entry_of, entries_table, entries_refusal, list_refusal}
use Rattle.layout.specs.Form.{list_lead, node_width, entry_width, form_of}
use Rattle.records.specs.Network.{network_refusal}
use Rattle.nodes.specs.Node.{node_id, is_own}
use Rattle.layout.specs.Refusals.{check_answer, refusing}
use Rattle.records.proofs.RowLaws.{rows_fine}
use Rattle.records.specs.Rows.{past_nodes, RowsAfter}
use Rattle.std.proofs.Common.{Result, Ok, Err}
use Rattle.layout.specs.declared.Form.{Form}
use Rattle.layout.specs.declared.Refusal.{Refusal}
use Rattle.reading.specs.House.{house}
use Rattle.reading.specs.Parts.{box_at, list_entry_at}
use Rattle.reading.specs.Whole.{read_network, read_list}
use Rattle.reading.proofs.Lowest.{passed, lowest_rows}
use Rattle.reading.proofs.Said.{box_id_at}
use Rattle.records.specs.Checked.{CheckedNetwork, CheckedEntries}
use Rattle.records.proofs.EnteredLaws.{entry_rows_lem}
use Rattle.records.specs.Entered.{entry_in, entered, with_entry}
use Rattle.preparing.specs.Prepared.{lacking_refusal, prepare_refusal, placed_in, with_stands, stands_after}
use Rattle.preparing.proofs.StandLaws.{stands_entered}
use Rattle.layout.specs.declared.Class.TheVariants.{NoEntry}
use Rattle.routes.specs.Carry.{highest}
use Rattle.lists.proofs.Answer.{given_same, row_given, first_meets}
use Rattle.records.proofs.Checked.{together_checked}

module _ (f : Form) (network list : List ℕ) where
  found_entry : (t : Bool) (e : ListEntry Route) → is_some (map (λ (y : ListEntry Route). y.route) (cond t (some e) none)) ≡ t
  found_entry true e = refl
  found_entry false e = refl

  has_entry : (x : ℕ) → is_some (listed (read_list f list) x) ≡ ltb (entry_of f list_lead list x) (entry_count list)
  unfolding listed read_list entry_of entry_id entry_offset list_entry_at
  has_entry x =
      ap (λ (o : Option (ListEntry Route)). is_some (map (λ (e : ListEntry Route). e.route) o))
      (find_rows (λ (e : ListEntry Route). e.id) (list_entry_at f.route list) (entry_width f list_lead) 7 (entry_count list) x)
      ∙ found_entry (ltb (entry_of f list_lead list x) (entry_count list)) _

  test : Own Route Demand → Bool
  test b = not (is_some (listed (read_list f list) b.id))

  passed_box : (t u : Bool) (b : Own Route Demand) (a : Input Route) → is_some (listed (read_list f list) b.id) ≡ u
      → not t || u ≡ passed test (cond t (own b) (input a))
  unfolding test
  passed_box true true b a e = rw e
  passed_box true false b a e = rw e
  passed_box false u b a e = refl

  entered_box : (i : ℕ) → entered f list_lead network list i ≡ passed test (box_at f.route network (at (node_part network) (node_width f) i))
  unfolding entered is_own node_id node_offset box_at
  entered_box i =
      let o = at (node_part network) (node_width f) i in
      passed_box (eqb (get_or network (o + 2) 0) 0) _ _ _ (has_entry (u16_at network o))

  -- the row of the first own box without an entry
  abbrev bare : ℕ
  bare = first_bad (entered f list_lead network list) (node_count network)

  lacking : unentered (read_network f network) (listed (read_list f list)) ≡ cond (ltb bare (node_count network)) (some (node_id f network bare)) none
  unfolding read_network test node_id node_offset
  lacking =
      lowest_rows test (box_at f.route network) (node_width f) (entered f list_lead network list) (node_part network) (node_count network)
      (λ i l. entered_box i)
      ∙ ap (λ (k : ℕ). cond (ltb bare (node_count network)) (some k) none) (box_id_at f.route network _)

  -- where 17 does not apply
  pub no_bare : unentered (read_network f network) (listed (read_list f list)) ≡ none → (i : ℕ) → i < node_count network → is_own f network i ≡ true
      → entry_in f list_lead network list i < entry_count list
  unfolding entered
  no_bare z i l q = go (ltb bare (node_count network)) refl (sym lacking ∙ z)
    where
      go : (t : Bool) → ltb bare (node_count network) ≡ t → cond t (some (node_id f network bare)) none ≡ none
          → entry_in f list_lead network list i < entry_count list
      go true e s = absurd (let y : ◌≡◌ {A = ℕ} 0 1 = cc in omega arith)
      go false e s = ltb-true _ _ (rw q at (none_bad (entered f list_lead network list) (node_count network) e i l))

  -- the placed entries
  module _ (row : ℕ) (e : row ≡ bare) (m n : ℕ) (p : n ≡ m) (q : m ≡ u16_at network 5) where
    pub entry_lacking : (r : Refusal) → row < n → r ≡ record { class = NoEntry; place = node_id f network row } → refusing r ≡ lacking_refusal f network list
    unfolding lacking_refusal
    entry_lacking r l w = rw (w, lacking, ← e, lt-ltb row (node_count network) (omega arith))

    pub entry_lacking_row : row < n → row < node_count network
    entry_lacking_row l = omega arith

    module _ (l : n ≤ row) where
      pub all_entered : given f ≡ lacking_refusal f network list
      unfolding lacking_refusal
      all_entered = rw (lacking, ← e, le-ltb row (node_count network) (omega arith))

      pub all_standing : (places stands after : List ℕ) → CheckedNetwork f network
          → places ≡ table_after (with_entry f list_lead network list) row (replicate 1024 0)
          → after ≡ with_stands f network (placed_in places) stands → after ≡ stands_after network list (Ok f) stands
      all_standing places stands after c placed filled =
          filled ∙ stands_entered f network list places stands (entry_rows_lem f list_lead network list row places c.room e (omega arith) placed)

-- a refusal leaves the table as it was
pub refused_stands : (network list stands : List ℕ) (r : Refusal) (x : Result Form Refusal) → x ≡ Err r → stands ≡ stands_after network list x stands
unfolding stands_after
refused_stands network list stands r x z = rw z

pub checked_counts : (f : Form) (network : List ℕ) → CheckedNetwork f network → 5 + 2 ≤ length network
checked_counts f network h = let l = h.room.long in omega arith

pub ruleset entering = (entry_lacking, entry_lacking_row, all_entered, all_standing, refused_stands, checked_counts)

-- the two records; none of 11 to 17 is among 1 to 8
list_past : (list : List ℕ) → past_nodes (list_refusal list) ≡ true
unfolding entries_refusal
list_past list = first_meets past_nodes (entries_table (form_of list) list_lead list) (given (form_of list)) refl refl

lacking_past : (f : Form) (network list : List ℕ) → past_nodes (lacking_refusal f network list) ≡ true
unfolding lacking_refusal
lacking_past f network list = first_meets past_nodes (judge_table (house highest) (read_network f network) (read_list f list)) (given f) refl refl

-- a form that is given is the one asked for
pub lacking_form : (f g : Form) (network list : List ℕ) → lacking_refusal f network list ≡ given g → f ≡ g
unfolding lacking_refusal
lacking_form f g network list e =
    given_same (row_given 17 (unentered (read_network f network) (listed (read_list f list))) (given f) g e).1

module _ (network list : List ℕ) (c : Result Form Refusal) (h : check_answer c ≡ network_refusal network) where
  module _ (r : Refusal) (e : c ≡ Err r) (x : Result Form Refusal) (z : x ≡ Err r) where
    pub network_refused : check_answer x ≡ prepare_refusal network list
    unfolding prepare_refusal
    network_refused = let n : network_refusal network ≡ refusing r = sym h ∙ ap check_answer e in rw (z, n)

    pub network_refused_rows : (before rows : List ℕ) → RowsAfter (form_of network) network c before rows → RowsAfter (form_of network) network x before rows
    network_refused_rows before rows t = rw z (rw e at t)

  module _ (f : Form) (e : c ≡ Ok f) (d : Result Form Refusal) (g : check_answer d ≡ list_refusal list) where
    told : network_refusal network ≡ given f
    told = sym h ∙ ap check_answer e

    module _ (r : Refusal) (q : d ≡ Err r) (x : Result Form Refusal) (z : x ≡ Err r) where
      pub list_refused : check_answer x ≡ prepare_refusal network list
      unfolding prepare_refusal
      list_refused = let n : list_refusal list ≡ refusing r = sym g ∙ ap check_answer q in rw (z, told, n)

      pub list_refused_rows : (before rows : List ℕ) → RowsAfter (form_of network) network c before rows → RowsAfter (form_of network) network x before rows
      list_refused_rows before rows t =
          let past : past_nodes (check_answer x) ≡ true = ap (λ (y : Result Form Refusal). past_nodes (check_answer y)) (z ∙ sym q) ∙ ap past_nodes g ∙ list_past list in
          rw past (rows_fine (form_of network) network f c before rows e t)

    module _ (i : Form) (q : d ≡ Ok i) (r : Result Form Refusal) (w : check_answer r ≡ lacking_refusal f network list) where
      pub records_entered : check_answer r ≡ prepare_refusal network list
      unfolding prepare_refusal
      records_entered = let n : list_refusal list ≡ given i = sym g ∙ ap check_answer q in rw (told, n) w

      pub records_rows : (before rows : List ℕ) → RowsAfter (form_of network) network c before rows → RowsAfter (form_of network) network r before rows
      records_rows before rows t =
          let past : past_nodes (check_answer r) ≡ true = ap past_nodes w ∙ lacking_past f network list in
          rw past (rows_fine (form_of network) network f c before rows e t)

-- a list that is taken with a network is checked by the network's form
pub list_checked : (network list : List ℕ) (c : Result Form Refusal) → check_answer c ≡ network_refusal network → (d : Result Form Refusal) → check_answer d ≡ list_refusal list → Bytes list
    → (f : Form) → c ≡ Ok f → (g : Form) → d ≡ Ok g → CheckedEntries f list_lead list
list_checked network list c h d k small f e g q = together_checked c d f g e q network h list_lead list k (omega arith, omega arith) small

pub ruleset preparing = (refused_stands, network_refused, network_refused_rows, list_refused, list_refused_rows, records_entered, records_rows)

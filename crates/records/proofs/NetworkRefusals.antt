-- Each answer of a check of a network, from the tests that the code has made by then.
--     wires, marks_..                 numbers 9 and 10, and the marks before and after the edges are read
--     wires_table                     what they leave in the table from ids to rows
--     nodes, nodes_.., parts_..       numbers 6 to 8, and on
--     many, counts, few_nodes         numbers 3 to 5, and on
--     network                         numbers 1 and 2, and on
--     same_form                       the form that was told, as its width is written out
use Rattle.std.proofs.Common.{None, Option, Result, Some}
use Prim.Native.Nat.{ℕ, ◌+◌, ◌≤◌, ◌<◌}
use native.Mathlib.Omega.{arith}
use mathlib.Core.Path.{◌≡◌, sym, ◌∙◌}
use mathlib.Core.Bool.{Bool, true, false, cond}
use mathlib.Core.List.{List}
use lib.Dec.{ltb}
use lib.ListN.{length, get_or}
use borrow.Author.Tests.{eq-eqb, ne_eqb, lt-ltb, le-ltb, ltb-false}
use Rattle.lists.specs.First.{first_bad}
use Rattle.lists.proofs.First.{first_all}
use Rattle.lists.specs.Rising.{Rising}
use Rattle.lists.proofs.Test.{or_f_l}
use Rattle.numbers.specs.BigEndian.{u16_at, u32_at}
use Rattle.layout.specs.Layout.{Room, node_count, edge_count, policy_count, policy_offset, node_part, node_offset, edge_offset, total}
use Rattle.nodes.specs.Node.{node_id, node_ok, ownless}
use Rattle.records.specs.Edge.{edge_ok, input_ok}
use Rattle.records.specs.Rows.{Filled, RowsAfter}
use Rattle.records.proofs.RowLaws.{ids_rise}
use Rattle.layout.proofs.Places.{nodes_room, policies_room}
use Rattle.nodes.specs.Policy.{policy_ok}
use Rattle.records.specs.Network.{many_parts, bad_policy, bad_node, bad_edge, bad_input, network_from, network_refusal}
use Rattle.lists.specs.Answer.{refused, given}
use Rattle.layout.specs.Refusals.{check_answer}
use Rattle.layout.specs.declared.Form.{Form}
use Rattle.layout.specs.declared.Refusal.{Refusal}
use Rattle.layout.specs.Form.{formed, form_of}
use Rattle.layout.proofs.OneForm.{unnamed, named_form}

module _ (f : Form) (b : List ℕ) where
  module _ (e bad : ℕ) (c : e ≡ u16_at b 7) (p : bad ≡ first_bad (edge_ok f b) e) where
    pub wires_edge : (o : ℕ) → bad < e → o ≡ edge_offset f b bad → refused 9 o ≡ network_from f b 9
    unfolding network_from
    wires_edge o l q = rw (← c, ← p, lt-ltb _ _ l, ← q)

    module _ (l : e ≤ bad) where
      pub wires_inputs : (a : Result Form Refusal) → check_answer a ≡ network_from f b 10 → check_answer a ≡ network_from f b 9
      unfolding network_from
      wires_inputs a z = let edges : ltb (bad_edge f b) (edge_count b) ≡ false = rw (← c, ← p) (le-ltb _ _ l) in rw edges z

  module _ (n i : ℕ) (d : n ≡ u16_at b 5) (q : i ≡ first_bad (input_ok f b) n) where
    pub inputs_ill : (o : ℕ) → i < n → o ≡ node_offset f b i → refused 10 o ≡ network_from f b 10
    unfolding network_from
    inputs_ill o m r = rw (← d, ← q, lt-ltb _ _ m, ← r)

    pub inputs_fine : n ≤ i → given f ≡ network_from f b 10
    unfolding network_from
    inputs_fine m = rw (← d, ← q, le-ltb _ _ m)

  -- numbers 9 and 10 leave the table filled
  pub wires_table : (r : Result Form Refusal) (before after : List ℕ) → check_answer r ≡ network_from f b 9 → Filled f b after → RowsAfter f b r before after
  unfolding network_from
  wires_table r before after e h = go (ltb (bad_edge f b) (edge_count b)) (ltb (bad_input f b) (node_count b)) e
    where
      go : (s t : Bool) → check_answer r ≡ cond s (refused 9 (edge_offset f b (bad_edge f b))) (cond t (refused 10 (node_offset f b (bad_input f b))) (given f)) → RowsAfter f b r before after
      go true t q = rw q h
      go false true q = rw q h
      go false false q = rw q h

  module _ (n node : ℕ) (d : n ≡ u16_at b 5) (r : node ≡ first_bad (node_ok f b) n) where
    pub nodes_ill : (o : ℕ) → node < n → o ≡ node_offset f b node → refused 7 o ≡ network_from f b 7
    unfolding network_from
    nodes_ill o m e = rw (← d, ← r, lt-ltb _ _ m, ← e)

    module _ (m : n ≤ node) (t : Bool) (o : t ≡ ownless f b) where
      pub nodes_ownless : (part : ℕ) → t ≡ true → part ≡ node_part b → refused 8 part ≡ network_from f b 7
      unfolding network_from
      nodes_ownless part y e = rw (e, ← d, ← r, le-ltb _ _ m, ← o, y)

      pub nodes_wires : (a : Result Form Refusal) → t ≡ false → check_answer a ≡ network_from f b 9 → check_answer a ≡ network_from f b 7
      unfolding network_from
      nodes_wires a y e =
          let nodes : ltb (bad_node f b) (node_count b) ≡ false = rw (← d, ← r) (le-ltb _ _ m) in
          let own : ownless f b ≡ false = sym o ∙ y in
          rw (nodes, own) e

  module _ (p bad : ℕ) (c : p ≡ get_or b 9 0) where
    pub policies_here : Room f b → policy_offset p ≤ length b
    policies_here r = rw c (policies_room f b r)

    module _ (q : bad ≡ first_bad (policy_ok b) p) where
      pub parts_policy : (o : ℕ) → bad < p → o ≡ policy_offset bad → refused 6 o ≡ network_from f b 6
      unfolding network_from
      parts_policy o l e = rw (← c, ← q, lt-ltb _ _ l, ← e)

      pub parts_nodes : (a : Result Form Refusal) → p ≤ bad → check_answer a ≡ network_from f b 7 → check_answer a ≡ network_from f b 6
      unfolding network_from
      parts_nodes a l e = let policies : ltb (bad_policy f b) (policy_count b) ≡ false = rw (← c, ← q) (le-ltb _ _ l) in rw policies e

  module _ (n : ℕ) (d : n ≡ u16_at b 5) where
    pub nodes_here : Room f b → node_offset f b n ≤ length b
    nodes_here r = rw d (nodes_room f b r)

    pub nodes_rise : (node : ℕ) → node ≡ first_bad (node_ok f b) n → n ≤ node → Rising (node_id f b) (node_count b)
    nodes_rise node r m = rw (← d) (ids_rise f b n (λ i l. first_all (node_ok f b) n i (omega arith)))

pub ruleset wires = (wires_edge, wires_inputs)

pub ruleset inputs = (inputs_ill, inputs_fine)

pub ruleset nodes = (nodes_ill, nodes_ownless)

module _ (f : Form) (b : List ℕ) where
  module _ (n : ℕ) (cn : n ≡ u16_at b 5) where
    pub many_nodes : f.most < n → true ≡ many_parts f b
    unfolding many_parts
    many_nodes l = rw (← cn, lt-ltb _ _ l)

    module _ (ln : n ≤ f.most) (e : ℕ) (ce : e ≡ u16_at b 7) where
      pub many_edges : 4096 < e → true ≡ many_parts f b
      unfolding many_parts
      many_edges l = rw (← cn, le-ltb _ _ ln, ← ce, lt-ltb _ _ l)

      pub many_policies : e ≤ 4096 → (p : ℕ) → p ≡ get_or b 9 0 → ltb 64 p ≡ many_parts f b
      unfolding many_parts
      many_policies l p cp = rw (← cn, le-ltb _ _ ln, ← ce, le-ltb _ _ l, ← cp)

  module _ (many : Bool) (c : many ≡ many_parts f b) where
    pub counts_many : many ≡ true → refused 3 5 ≡ network_from f b 2
    unfolding network_from
    counts_many y = rw (← c, y)

    pub few_nodes : many ≡ false → node_count b ≤ f.most
    unfolding many_parts
    few_nodes y = ltb-false f.most (node_count b) (or_f_l _ _ (sym c ∙ y))

    module _ (y : many ≡ false) (t s : ℕ) (q : t ≡ total f b) (d : s ≡ u32_at b 0) where
      pub counts_length : (s + 4 ≡ t → ⊥) → refused 4 0 ≡ network_from f b 2
      unfolding network_from
      counts_length x = rw (← c, y, ← q, ← d, ne_eqb _ _ x)

      module _ (x : s + 4 ≡ t) where
        pub counts_short : length b < t → refused 1 (length b) ≡ network_from f b 2
        unfolding network_from
        counts_short l = rw (← c, y, ← q, ← d, eq-eqb _ _ x, lt-ltb _ _ l)

        module _ (g : t ≤ length b) where
          pub counts_behind : t < length b → refused 5 t ≡ network_from f b 2
          unfolding network_from
          counts_behind l = rw (← c, y, ← q, ← d, eq-eqb _ _ x, le-ltb _ _ g, lt-ltb _ _ l)

          pub counts_parts : (a : Result Form Refusal) → length b ≤ t → check_answer a ≡ network_from f b 6 → check_answer a ≡ network_from f b 2
          unfolding network_from
          counts_parts a l e = rw (← c, y, ← q, ← d, eq-eqb _ _ x, le-ltb _ _ g, le-ltb _ _ l) e

pub ruleset many = (many_nodes, many_edges, many_policies)

pub ruleset counts = (counts_many, counts_length, counts_short, counts_behind)

module _ (b : List ℕ) where
  pub network_short : length b < 10 → refused 1 (length b) ≡ network_refusal b
  unfolding network_refusal
  network_short l = rw (lt-ltb _ _ l)

  module _ (h : 10 ≤ length b) (g : Option Form) (k : g ≡ formed b) where
    pub network_version : g ≡ None → refused 2 4 ≡ network_refusal b
    unfolding network_refusal
    network_version e = rw (le-ltb _ _ h, unnamed b (sym e ∙ k))

    pub network_counts : (f : Form) (r : Result Form Refusal) → g ≡ Some f → check_answer r ≡ network_from f b 2 → check_answer r ≡ network_refusal b
    unfolding network_refusal network_from
    network_counts f r v e = let n = named_form b f (sym v ∙ k) in rw (le-ltb _ _ h, n.1, ← n.0) e

    -- the table is that of the record's own form
    pub rows_formed : (f : Form) (r : Result Form Refusal) (before after : List ℕ) → g ≡ Some f → RowsAfter f b r before after → RowsAfter (form_of b) b r before after
    rows_formed f r before after v e = rw (← (named_form b f (sym v ∙ k)).0) e

pub ruleset network = (network_short, network_version, network_counts)

-- a form that is told is told by all that equals it
pub same_form : (g : Option Form) (f f' : Form) → f' ≡ f → g ≡ Some f → g ≡ Some f'
same_form g f f' e q = rw e q

-- What "none of 1 to 10 applies" comes to, fact by fact, and back.
use Prim.Native.Nat.{ℕ, ◌+◌}
use native.Mathlib.Omega.{arith}
use mathlib.Core.Path.{refl}
use mathlib.Core.Bool.{◌||◌}
use mathlib.Core.List.{List}
use lib.Dec.{ltb}
use lib.ListN.{length}
use borrow.Author.Tests.{ltb-false, le-ltb, eqb-true, eq-eqb, not-false}
use Rattle.lists.specs.Answer.{given}
use Rattle.lists.proofs.Answer.{first_given}
use Rattle.lists.proofs.Test.{or_f_l, or_f_r}
use Rattle.numbers.specs.BigEndian.{u32_at}
use Rattle.layout.specs.Form.{form_of, Usable}
use Rattle.layout.specs.Layout.{Room, node_count, edge_count, policy_count, total}
use Rattle.layout.specs.declared.Form.{Form}
use Rattle.entries.proofs.Fine.{none_bad, bad_none}
use Rattle.nodes.specs.Node.{node_ok}
use Rattle.nodes.specs.Policy.{policy_ok}
use Rattle.records.specs.Edge.{edge_ok, input_ok}
use Rattle.records.specs.Network.{many_parts, network_table, network_refusal, SoundRecord, NetworkFine}

pub network_fine : (b : List ℕ) → SoundRecord b → NetworkFine (form_of b) b
unfolding network_refusal many_parts
network_fine b h =
    let f = form_of b in
    let few = ltb f.most (node_count b) in
    let few₂ = ltb 4096 (edge_count b) in
    let few₃ = ltb 64 (policy_count b) in
    let r = (first_given (network_table f b) (given f) f refl h).0 in
    let counts = r.1.1 in
    let lengths = counts.1 in
    let parts = lengths.1.1.1 in
    let low = ltb-false (length b) (total f b) lengths.1.0 in
    let high = ltb-false (total f b) (length b) lengths.1.1.0 in
    record {
      long = ltb-false (length b) 10 r.0;
      version = not-false _ r.1.0;
      few_nodes = ltb-false f.most (node_count b) (or_f_l few (few₂ || few₃) counts.0);
      few_edges = ltb-false 4096 (edge_count b) (or_f_l few₂ few₃ (or_f_r few (few₂ || few₃) counts.0));
      few_policies = ltb-false 64 (policy_count b) (or_f_r few₂ few₃ (or_f_r few (few₂ || few₃) counts.0));
      said = eqb-true (u32_at b 0 + 4) (total f b) (not-false _ lengths.0);
      whole = omega arith;
      policies = none_bad (policy_ok b) (policy_count b) parts.0;
      nodes = none_bad (node_ok f b) (node_count b) parts.1.0;
      own = parts.1.1.0;
      edges = none_bad (edge_ok f b) (edge_count b) parts.1.1.1.0;
      inputs = none_bad (input_ok f b) (node_count b) parts.1.1.1.1.0;
    }

pub fine_network : (b : List ℕ) → NetworkFine (form_of b) b → SoundRecord b
unfolding network_refusal many_parts
fine_network b h =
    let f = form_of b in
    let e = h.whole in
    rw (
      le-ltb (length b) 10 h.long,
      h.version,
      le-ltb f.most (node_count b) h.few_nodes,
      le-ltb 4096 (edge_count b) h.few_edges,
      le-ltb 64 (policy_count b) h.few_policies,
      eq-eqb (u32_at b 0 + 4) (total f b) h.said,
      le-ltb (length b) (total f b) (omega arith),
      le-ltb (total f b) (length b) (omega arith),
      bad_none (policy_ok b) (policy_count b) h.policies,
      bad_none (node_ok f b) (node_count b) h.nodes,
      h.own,
      bad_none (edge_ok f b) (edge_count b) h.edges,
      bad_none (input_ok f b) (node_count b) h.inputs,
    )

pub fine_room : (f : Form) (b : List ℕ) → Usable f → NetworkFine f b → Room f b
fine_room f b u n = record { usable = u; long = n.long; few = n.few_nodes; whole = let h = n.whole in omega arith }

-- Laws of offsets: where the parts begin, how they follow on each other, and that each lies within the record.
--     policy_first, node_first, edge_first, entry_first     the first of each part
--     policy_after, node_after, edge_after, entry_after     the next one
--     policy_within, node_within, edge_within, ..           each ends within as many as there are
--     node_fields                                           a node is as wide as its fields at least
--     policies_room, nodes_room, policy_room, ..            and within the bytes
use Prim.Native.Nat.{ℕ, ◌+◌, ◌≤◌, ◌<◌}
use native.Mathlib.Omega.{arith}
use mathlib.Core.Path.{◌≡◌}
use mathlib.Core.List.{List}
use lib.ListN.{length}
use Rattle.lists.proofs.Stride.{at_zero, at_next, at_fits, at_base}
use Rattle.layout.specs.declared.Form.{Form}
use Rattle.layout.specs.Layout.{policy_offset, node_offset, edge_offset, Room, entry_offset, EntriesRoom, node_part, edge_part, node_count, policy_count, edge_count, entry_count}
use Rattle.layout.specs.Form.{node_width, entry_width}

pub policy_first : policy_offset 0 ≡ 10
unfolding policy_offset
policy_first = at_zero 10 13

pub policy_after : (i : ℕ) → policy_offset (i + 1) ≡ policy_offset i + 13
unfolding policy_offset
policy_after i = at_next 10 13 i

pub policy_within : (i n : ℕ) → i < n → policy_offset i + 13 ≤ policy_offset n
unfolding policy_offset
policy_within i n l = at_fits 10 13 i n l

-- a node's fields, up to its tags, are within it
pub node_fields : (f : Form) → 9 + f.route + f.route ≤ node_width f
unfolding node_width
node_fields f = omega arith

module _ (f : Form) (b : List ℕ) where
  pub node_first : node_offset f b 0 ≡ node_part b
  unfolding node_offset
  node_first = at_zero (node_part b) (node_width f)

  pub node_after : (i : ℕ) → node_offset f b (i + 1) ≡ node_offset f b i + node_width f
  unfolding node_offset
  node_after i = at_next (node_part b) (node_width f) i

  pub node_within : (i n : ℕ) → i < n → node_offset f b i + node_width f ≤ node_offset f b n
  unfolding node_offset
  node_within i n l = at_fits (node_part b) (node_width f) i n l

  pub edge_first : edge_offset f b 0 ≡ edge_part f b
  unfolding edge_offset
  edge_first = at_zero (edge_part f b) 5

  pub edge_after : (j : ℕ) → edge_offset f b (j + 1) ≡ edge_offset f b j + 5
  unfolding edge_offset
  edge_after j = at_next (edge_part f b) 5 j

  pub edge_within : (j n : ℕ) → j < n → edge_offset f b j + 5 ≤ edge_offset f b n
  unfolding edge_offset
  edge_within j n l = at_fits (edge_part f b) 5 j n l

  module _ (r : Room f b) where
    pub nodes_room : node_offset f b (node_count b) ≤ length b
    unfolding edge_offset
    nodes_room = let h = r.whole in omega (arith, at_base (edge_part f b) 5 (edge_count b))

    pub policies_room : policy_offset (policy_count b) ≤ length b
    unfolding node_offset
    policies_room = omega (arith, nodes_room, at_base (node_part b) (node_width f) (node_count b))

    pub policy_room : (i : ℕ) → i < policy_count b → policy_offset i + 13 ≤ length b
    policy_room i l = omega (arith, policies_room, policy_within i (policy_count b) l)

    pub node_room : (i : ℕ) → i < node_count b → node_offset f b i + node_width f ≤ length b
    node_room i l = omega (arith, nodes_room, node_within i (node_count b) l)

    pub node_fields_room : (i : ℕ) → i < node_count b → node_offset f b i + (9 + f.route + f.route) ≤ length b
    node_fields_room i l = omega (arith, node_room i l, node_fields f)

    pub edge_room : (j : ℕ) → j < edge_count b → edge_offset f b j + 5 ≤ length b
    edge_room j l = let h = r.whole in omega (arith, edge_within j (edge_count b) l)

module _ (f : Form) (lead : ℕ) where
  pub entry_first : entry_offset f lead 0 ≡ 7
  unfolding entry_offset
  entry_first = at_zero 7 (entry_width f lead)

  pub entry_after : (i : ℕ) → entry_offset f lead (i + 1) ≡ entry_offset f lead i + (lead + f.route)
  unfolding entry_offset entry_width
  entry_after i = at_next 7 (lead + f.route) i

  pub entry_within : (i n : ℕ) → i < n → entry_offset f lead i + (lead + f.route) ≤ entry_offset f lead n
  unfolding entry_offset entry_width
  entry_within i n l = at_fits 7 (lead + f.route) i n l

  module _ (b : List ℕ) (r : EntriesRoom f lead b) where
    pub entry_room : (i : ℕ) → i < entry_count b → entry_offset f lead i + (lead + f.route) ≤ length b
    entry_room i l = let h = r.whole in omega (arith, entry_within i (entry_count b) l)

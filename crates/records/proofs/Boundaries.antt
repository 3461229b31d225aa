-- The smallest records that are refused, and counts and lengths at the end of their range.
use Prim.Native.Nat.{ℕ, ◌<◌}
use mathlib.Core.Path.{◌≡◌, refl}
use mathlib.Core.List.{List, [], ◌∷◌}
use lib.ListN.{length}
use borrow.Author.Tests.{lt-ltb}
use Rattle.lists.specs.First.{first_bad, every}
use Rattle.lists.specs.Stride.{at}
use Rattle.numbers.specs.BigEndian.{u16_at, u32_at}
use Rattle.layout.specs.Form.{node_width, entry_width, form_of, versioned, version1}
use Rattle.layout.specs.Layout.{policy_offset, node_offset, edge_offset, entry_offset}
use Rattle.entries.specs.Entries.{entries_refusal, list_refusal, sheet_refusal}
use Rattle.records.specs.Network.{many_parts, network_refusal}
use Rattle.nodes.specs.Node.{ownless}
use Rattle.lists.specs.Answer.{refused, given}

-- a network of 0 to 9 bytes, a sheet or a list of 0 to 6
pub short_network : (b : List ℕ) → length b < 10 → network_refusal b ≡ refused 1 (length b)
unfolding network_refusal form_of versioned
short_network b l = rw (lt-ltb (length b) 10 l)

pub short_entries : (lead : ℕ) (b : List ℕ) → length b < 7 → entries_refusal lead b ≡ refused 11 (length b)
unfolding entries_refusal form_of versioned
short_entries lead b l = rw (lt-ltb (length b) 7 l)

-- ten bytes with all counts 0 are a network without an own node, and seven are an empty sheet or list
pub empty_network : network_refusal (0 ∷ 0 ∷ 0 ∷ 6 ∷ 1 ∷ 0 ∷ 0 ∷ 0 ∷ 0 ∷ 0 ∷ []) ≡ refused 8 10
unfolding network_refusal form_of versioned many_parts u16_at u32_at edge_offset node_offset policy_offset node_width at ownless every first_bad
empty_network = refl

pub empty_list : list_refusal (0 ∷ 0 ∷ 0 ∷ 3 ∷ 1 ∷ 0 ∷ 0 ∷ []) ≡ given version1
unfolding entries_refusal form_of versioned u16_at u32_at entry_offset entry_width at first_bad
empty_list = refl

pub empty_sheet : sheet_refusal (0 ∷ 0 ∷ 0 ∷ 3 ∷ 1 ∷ 0 ∷ 0 ∷ []) ≡ given version1
unfolding entries_refusal form_of versioned u16_at u32_at entry_offset entry_width at first_bad
empty_sheet = refl

-- a length of 0xFFFFFFFF is no length of a record, and four more do not wrap to 3
pub longest_network : network_refusal (255 ∷ 255 ∷ 255 ∷ 255 ∷ 1 ∷ 0 ∷ 0 ∷ 0 ∷ 0 ∷ 0 ∷ []) ≡ refused 4 0
unfolding network_refusal form_of versioned many_parts u16_at u32_at edge_offset node_offset policy_offset node_width at
longest_network = refl

pub longest_list : list_refusal (255 ∷ 255 ∷ 255 ∷ 255 ∷ 1 ∷ 0 ∷ 0 ∷ []) ≡ refused 14 0
unfolding entries_refusal form_of versioned u16_at u32_at entry_offset entry_width at
longest_list = refl

-- counts of 65,535 in a record that ends right after them
pub most_nodes : network_refusal (0 ∷ 0 ∷ 0 ∷ 6 ∷ 1 ∷ 255 ∷ 255 ∷ 255 ∷ 255 ∷ 255 ∷ []) ≡ refused 3 5
unfolding network_refusal form_of versioned many_parts u16_at u32_at
most_nodes = refl

pub most_entries : list_refusal (0 ∷ 0 ∷ 0 ∷ 3 ∷ 1 ∷ 255 ∷ 255 ∷ []) ≡ refused 13 5
unfolding entries_refusal form_of versioned u16_at u32_at
most_entries = refl

-- one count over its bound alone: 513 nodes, 4,097 edges, 65 policies, 513 entries
pub node_513 : network_refusal (0 ∷ 0 ∷ 0 ∷ 6 ∷ 1 ∷ 2 ∷ 1 ∷ 0 ∷ 0 ∷ 0 ∷ []) ≡ refused 3 5
unfolding network_refusal form_of versioned many_parts u16_at u32_at
node_513 = refl

pub edge_4097 : network_refusal (0 ∷ 0 ∷ 0 ∷ 6 ∷ 1 ∷ 0 ∷ 0 ∷ 16 ∷ 1 ∷ 0 ∷ []) ≡ refused 3 5
unfolding network_refusal form_of versioned many_parts u16_at u32_at
edge_4097 = refl

pub policy_65 : network_refusal (0 ∷ 0 ∷ 0 ∷ 6 ∷ 1 ∷ 0 ∷ 0 ∷ 0 ∷ 0 ∷ 65 ∷ []) ≡ refused 3 5
unfolding network_refusal form_of versioned many_parts u16_at u32_at
policy_65 = refl

pub entry_513 : list_refusal (0 ∷ 0 ∷ 0 ∷ 3 ∷ 1 ∷ 2 ∷ 1 ∷ []) ≡ refused 13 5
unfolding entries_refusal form_of versioned u16_at u32_at
entry_513 = refl

-- at the bounds the next row decides: the length differs
pub node_512 : network_refusal (0 ∷ 0 ∷ 0 ∷ 6 ∷ 1 ∷ 2 ∷ 0 ∷ 16 ∷ 0 ∷ 64 ∷ []) ≡ refused 4 0
unfolding network_refusal form_of versioned many_parts u16_at u32_at edge_offset node_offset policy_offset node_width at
node_512 = refl

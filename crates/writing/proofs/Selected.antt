-- A network with a record's policies: its record is head, policies, nodes and edges, one behind another.
--     written_parts         whatever its boxes and wires are
--     Selected              its boxes and wires are at places; which box or wire a place keeps, if any, is the caller's
--     selected_parts        its record by the places
use Prim.Native.Nat.{ℕ, suc, ◌+◌, ◌-◌, ◌*◌, ◌≤◌}
use native.Mathlib.Omega.{arith}
use mathlib.Core.List.{List, ◌++◌}
use mathlib.Core.Option.{Option}
use mathlib.Core.Path.{◌≡◌, refl, sym, ap, ◌∙◌}
use lib.ListN.{length, take, drop}
use Rattle.lists.specs.Bytes.{Bytes}
use Rattle.lists.proofs.Codec.{rows_forth}
use Rattle.lists.specs.Gather.{joined, gathered, laid_option}
use Rattle.lists.proofs.Gather.{gathered_laid}
use Rattle.lists.specs.Rows.{rows, laid_rows}
use Rattle.lists.proofs.Rows.{length_rows}
use Rattle.lists.specs.Stride.{at}
use Rattle.numbers.specs.BigEndian.{u16_bytes, u32_bytes}
use Rattle.routes.specs.Form.{policy_at, policy_bytes}
use Rattle.routes.proofs.PolicyCodec.{policy}
use Rattle.routes.specs.declared.Demand.{Demand}
use Rattle.routes.specs.declared.Route.{Route}
use Rattle.networks.specs.Network.{Box, Wire}
use Rattle.records.specs.Network.{NetworkFine}
use Rattle.layout.specs.Form.{Usable}
use Rattle.layout.specs.Layout.{policy_count, node_part, policy_offset}
use Rattle.nodes.specs.Policy.{policy_ok}
use Rattle.layout.proofs.Places.{policies_room}
use Rattle.records.proofs.Fine.{fine_room}
use Rattle.layout.specs.declared.Form.{Form}
use Rattle.reading.specs.Parts.{box_bytes, wire_bytes}
use Rattle.reading.specs.Whole.{HouseNetwork, write_network}
use Rattle.reading.proofs.Lengths.{network_length}
use Rattle.reading.proofs.NetworkBytes.{length_written, length_parts}
use Rattle.writing.specs.Heads.{count_bytes, head_bytes, policies_in, size_of}
use Rattle.writing.specs.Parts.{Parts}

module _ (f : Form) (b : List ℕ) (usable : Usable f) (small : Bytes b) (fine : NetworkFine f b) (N : HouseNetwork)
    (same : N.policies ≡ rows (policy_at b) 13 10 (policy_count b)) where
  -- the policies
  policies_there : 10 + policy_count b * 13 ≤ length b
  unfolding policy_offset at
  policies_there = policies_room f b (fine_room f b usable fine)

  part_size : policy_count b * 13 ≡ node_part b - 10
  unfolding policy_offset at
  part_size = omega arith

  policies_bytes : laid_rows policy_bytes N.policies ≡ policies_in b
  unfolding policies_in policy_ok policy_offset
  policies_bytes =
      ap (laid_rows policy_bytes) same
      ∙ rows_forth policy b 10 (policy_count b) policies_there (λ i l. (small, fine.policies i l))
      ∙ ap (λ (k : ℕ). take k (drop 10 b)) part_size

  policies_count : length N.policies ≡ policy_count b
  policies_count = ap length same ∙ length_rows (policy_at b) 13 10 (policy_count b)

  abbrev node_part_of : List ℕ
  node_part_of = laid_rows (box_bytes f.route) N.boxes

  abbrev edge_part_of : List ℕ
  edge_part_of = laid_rows wire_bytes N.wires

  parts_bytes : laid_rows policy_bytes N.policies ++ (node_part_of ++ edge_part_of) ≡ policies_in b ++ (node_part_of ++ edge_part_of)
  parts_bytes = rw policies_bytes

  module _ (size nodes edges : ℕ) (p : nodes ≡ length N.boxes) (q : edges ≡ length N.wires) (r : size ≡ size_of f (policy_count b) nodes edges) where
    long : size ≡ length (write_network f N)
    unfolding size_of at policy_offset
    long = r ∙ rw (p, q, ← policies_count) (sym (network_length f usable.wide N ∙ omega arith))

    said : suc (suc (suc (suc (suc (length (policies_in b ++ (node_part_of ++ edge_part_of))))))) + 1 ≡ size - 4
    said =
        let whole = length_written f usable.wide N in
        let parts = sym (ap length parts_bytes) ∙ length_parts f usable.wide N in
        omega (arith, long)

    whole : write_network f N ≡ head_bytes f.version size nodes edges (policy_count b) ++ (policies_in b ++ (node_part_of ++ edge_part_of))
    unfolding write_network head_bytes count_bytes u16_bytes u32_bytes
    whole = rw (parts_bytes, ← p, ← q, policies_count, said)

    ten : 10 ≡ length (head_bytes f.version size nodes edges (policy_count b))
    unfolding head_bytes count_bytes u16_bytes u32_bytes
    ten = refl

    pub written_parts : Parts (write_network f N) size (head_bytes f.version size nodes edges (policy_count b)) (policies_in b) node_part_of edge_part_of
    written_parts = record { is = whole; long = long; ten = ten }

pub record Selected (N : HouseNetwork) (b : List ℕ) (box : ℕ → Option (Box Route Demand)) (n : ℕ) (wire : ℕ → Option Wire) (m : ℕ) : Type 0 where
  pub policies : N.policies ≡ rows (policy_at b) 13 10 (policy_count b)
  pub boxes : N.boxes ≡ gathered box n
  pub wires : N.wires ≡ gathered wire m

module _ (f : Form) (b : List ℕ) (usable : Usable f) (small : Bytes b) (fine : NetworkFine f b) (N : HouseNetwork) (box : ℕ → Option (Box Route Demand)) (n : ℕ)
    (wire : ℕ → Option Wire) (m : ℕ) (s : Selected N b box n wire m) where
  pub selected_parts : (size nodes edges : ℕ) → nodes ≡ length N.boxes → edges ≡ length N.wires → size ≡ size_of f (policy_count b) nodes edges
      → Parts (write_network f N) size (head_bytes f.version size nodes edges (policy_count b)) (policies_in b)
      (joined (λ i. laid_option (box_bytes f.route) (box i)) n) (joined (λ j. laid_option wire_bytes (wire j)) m)
  selected_parts size nodes edges p q r =
      let runs : laid_rows (box_bytes f.route) N.boxes ≡ joined (λ i. laid_option (box_bytes f.route) (box i)) n =
      ap (laid_rows (box_bytes f.route)) s.boxes ∙ gathered_laid (box_bytes f.route) box n in
      let wired : laid_rows wire_bytes N.wires ≡ joined (λ j. laid_option wire_bytes (wire j)) m =
      ap (laid_rows wire_bytes) s.wires ∙ gathered_laid wire_bytes wire m in
      rw (← runs, ← wired) (written_parts f b usable small fine N s.policies size nodes edges p q r)

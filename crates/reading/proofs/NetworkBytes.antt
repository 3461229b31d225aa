-- A network's bytes: what is written is read back, and what is read from a sound record is written as the same bytes.
use mathlib.Core.Path.{◌≡◌, refl, sym, ap, ap₂, ◌∙◌}
use mathlib.Core.Bool.{true}
use mathlib.Core.List.{List, [], ◌∷◌, ◌++◌, append_assoc, append-nil}
use Prim.Native.Nat.{ℕ, suc, ◌+◌, ◌*◌, ◌/◌, ◌%◌, ◌≤◌, ◌<◌}
use native.Mathlib.Omega.{arith}
use lib.Dec.{leb}
use lib.ListN.{length, drop, length-append, length-drop}
use lib.Seq.{take_all}
use Rattle.lists.specs.All.{All}
use Rattle.lists.specs.Bytes.{Bytes}
use Rattle.lists.proofs.Codec.{rows_in, rows_forth}
use Rattle.lists.specs.Rows.{rows, laid_rows}
use Rattle.lists.proofs.Rows.{length_rows, length_laid_rows}
use Rattle.lists.specs.Rising.{least}
use Rattle.lists.specs.Stride.{at}
use Rattle.lists.proofs.Test.{and_r}
use Rattle.numbers.specs.BigEndian.{u16_at, u16_bytes, u32_bytes}
use Rattle.routes.specs.Form.{policy_at, policy_bytes}
use Rattle.routes.proofs.PolicyCodec.{PolicyFits, policy}
use Rattle.layout.specs.Form.{node_width}
use Rattle.layout.specs.Layout.{node_count, edge_count, policy_count, policy_offset, node_part, node_offset, edge_part, edge_offset}
use Rattle.nodes.specs.Node.{node_id, node_ok, node_formed}
use Rattle.nodes.specs.Policy.{policy_ok}
use Rattle.records.specs.Network.{NetworkFine}
use Rattle.layout.specs.declared.Form.{Form}
use Rattle.reading.specs.Parts.{box_at, box_bytes, wire_at, wire_bytes}
use Rattle.reading.specs.Whole.{HouseNetwork, read_network, write_network}
use Rattle.reading.proofs.BoxCodec.{BoxFits, box}
use Rattle.reading.proofs.RowCodecs.{WireFits, wire}
use Rattle.reading.proofs.Joins.{piece_on, byte_on, u16_on, record_on}

-- every number of the network fits its bytes
pub record NetworkFits (N : HouseNetwork) : Type 0 where
  pub policies_fit : All PolicyFits N.policies
  pub boxes_fit : All BoxFits N.boxes
  pub wires_fit : All WireFits N.wires

module _ (f : Form) (enough : 9 ≤ f.route) where
  -- the three parts
  abbrev pub policy_part : HouseNetwork → List ℕ
  policy_part N = laid_rows policy_bytes N.policies

  abbrev pub box_part : HouseNetwork → List ℕ
  box_part N = laid_rows (box_bytes f.route) N.boxes

  abbrev pub wire_part : HouseNetwork → List ℕ
  wire_part N = laid_rows wire_bytes N.wires

  -- written and read back
  module _ (N : HouseNetwork) where
    abbrev W : List ℕ
    W = write_network f N

    abbrev said : ℕ
    said = suc (suc (suc (suc (suc (length (policy_part N ++ (box_part N ++ wire_part N))))))) + 1

    -- the ten bytes before the parts
    abbrev pub head : List ℕ
    head =
        said / 65536 / 256 ∷ said / 65536 % 256 ∷ said % 65536 / 256 ∷ said % 65536 % 256 ∷ f.version ∷
        length N.boxes / 256 ∷ length N.boxes % 256 ∷ length N.wires / 256 ∷ length N.wires % 256 ∷ length N.policies ∷ []

    pub written : W ≡ head ++ (policy_part N ++ (box_part N ++ wire_part N))
    unfolding write_network u32_bytes u16_bytes
    written = refl

    pub node_count_lem : node_count W ≡ length N.boxes
    unfolding u16_at
    node_count_lem = rw written (omega arith)

    pub edge_count_lem : edge_count W ≡ length N.wires
    unfolding u16_at
    edge_count_lem = rw written (omega arith)

    pub policy_count_lem : policy_count W ≡ length N.policies
    policy_count_lem = rw written refl

    length_policies : length (policy_part N) ≡ length N.policies * 13
    length_policies = length_laid_rows 13 policy_bytes policy.size N.policies

    length_boxes : length (box_part N) ≡ length N.boxes * (9 + f.route + f.route)
    length_boxes = length_laid_rows (9 + f.route + f.route) (box_bytes f.route) (box f.route enough).size N.boxes

    pub length_wires : length (wire_part N) ≡ length N.wires * 5
    length_wires = length_laid_rows 5 wire_bytes wire.size N.wires

    abbrev pub parts_length : ℕ
    parts_length = length (policy_part N) + length (box_part N) + length (wire_part N)

    pub length_parts : length (policy_part N ++ (box_part N ++ wire_part N)) ≡ parts_length
    length_parts = length-append (policy_part N) _ ∙ ap (◌+◌ (length (policy_part N))) (length-append (box_part N) (wire_part N)) ∙ omega arith

    pub length_written : length W ≡ 10 + parts_length
    length_written = ap length written ∙ (let e = length_parts in omega arith)

    -- the parts by their counts
    pub parts_counted : parts_length ≡ length N.policies * 13 + length N.boxes * (9 + f.route + f.route) + length N.wires * 5
    parts_counted = rw (length_policies, length_boxes, length_wires)

    pub node_part_lem : node_part W ≡ 10 + length (policy_part N)
    unfolding policy_offset at
    node_part_lem = rw (policy_count_lem, length_policies) (omega arith)

    pub edge_part_lem : edge_part f W ≡ 10 + length (policy_part N) + length (box_part N)
    unfolding node_offset at node_width
    edge_part_lem = rw (node_part_lem, node_count_lem, length_boxes) (omega arith)

    read_policies : All PolicyFits N.policies → rows (policy_at W) 13 10 (policy_count W) ≡ N.policies
    read_policies h = rw policy_count_lem (rows_in policy N.policies head (box_part N ++ wire_part N) W 10 written refl h)

    read_boxes : All BoxFits N.boxes → rows (box_at f.route W) (node_width f) (node_part W) (node_count W) ≡ N.boxes
    unfolding node_width
    read_boxes h = rw node_count_lem (rows_in (box f.route enough) N.boxes (head ++ policy_part N) (wire_part N) W (node_part W) written (let e = node_part_lem in omega arith) h)

    read_wires : All WireFits N.wires → rows (wire_at W) 5 (edge_part f W) (edge_count W) ≡ N.wires
    read_wires h = rw edge_count_lem (rows_in wire N.wires (head ++ (policy_part N ++ box_part N)) [] W (edge_part f W)
        (written ∙ simp (append_assoc, append-nil))
        (length-append head (policy_part N ++ box_part N) ∙ ap (◌+◌ 10) (length-append (policy_part N) (box_part N)) ∙ sym (edge_part_lem ∙ omega arith)) h)

    -- What is written is read back.
    pub read_written : NetworkFits N → read_network f (write_network f N) ≡ N
    unfolding read_network
    read_written h = λ i. record { policies = read_policies h.policies_fit i; boxes = read_boxes h.boxes_fit i; wires = read_wires h.wires_fit i }

  -- read and written back
  module _ (b : List ℕ) (small : Bytes b) (fine : NetworkFine f b) where
    abbrev R : HouseNetwork
    R = read_network f b

    -- the parts' offsets as sums
    node_start : node_part b ≡ 10 + policy_count b * 13
    unfolding policy_offset at
    node_start = refl

    edge_start : edge_part f b ≡ 10 + policy_count b * 13 + node_count b * (9 + f.route + f.route)
    unfolding policy_offset node_offset at node_width
    edge_start = refl

    record_end : length b ≡ 10 + policy_count b * 13 + node_count b * (9 + f.route + f.route) + edge_count b * 5
    unfolding policy_offset node_offset edge_offset at node_width
    record_end = sym fine.whole

    policies_forth : policy_part R ++ drop (node_part b) b ≡ drop 10 b
    unfolding read_network policy_offset policy_ok
    policies_forth =
        ap₂ (λ (l : List ℕ) (o : ℕ). l ++ drop o b)
        (rows_forth policy b 10 (policy_count b) (let h = record_end in omega arith) (λ i l. (small, fine.policies i l)))
        node_start
        ∙ piece_on b 10 (policy_count b * 13)

    node_formed_lem : (i : ℕ) → i < node_count b → node_formed f.route b (node_offset f b i) ≡ true
    unfolding node_ok
    node_formed_lem i l = and_r (leb (least (node_id f b) i) (node_id f b i)) (node_formed f.route b (node_offset f b i)) (fine.nodes i l)

    boxes_forth : box_part R ++ drop (edge_part f b) b ≡ drop (node_part b) b
    unfolding read_network node_width node_offset
    boxes_forth =
        let next : edge_part f b ≡ node_part b + node_count b * (9 + f.route + f.route) = let h = edge_start in let g = node_start in omega arith in
        ap₂ (λ (l : List ℕ) (o : ℕ). l ++ drop o b)
        (rows_forth (box f.route enough) b (node_part b) (node_count b) (let h = record_end in let g = node_start in omega arith) (λ i l. (small, node_formed_lem i l)))
        next
        ∙ piece_on b (node_part b) (node_count b * (9 + f.route + f.route))

    wires_forth : wire_part R ≡ drop (edge_part f b) b
    unfolding read_network
    wires_forth =
        rows_forth wire b (edge_part f b) (edge_count b) (let h = record_end in let g = edge_start in omega arith) (λ i l. small)
        ∙ take_all (edge_count b * 5) (drop (edge_part f b) b) (simp length-drop (let h = record_end in let g = edge_start in omega arith))

    parts_forth : policy_part R ++ (box_part R ++ wire_part R) ≡ drop 10 b
    parts_forth = ap (λ (l : List ℕ). policy_part R ++ l) (ap (◌++◌ (box_part R)) wires_forth ∙ boxes_forth) ∙ policies_forth

    counts : (length R.boxes ≡ node_count b) × (length R.wires ≡ edge_count b) × (length R.policies ≡ policy_count b)
    unfolding read_network
    counts = (
      length_rows (box_at f.route b) (node_width f) (node_part b) (node_count b),
      length_rows (wire_at b) 5 (edge_part f b) (edge_count b),
      length_rows (policy_at b) 13 10 (policy_count b),
    )

    rest_forth : u16_bytes (length R.boxes) ++ (u16_bytes (length R.wires) ++ (length R.policies ∷ (policy_part R ++ (box_part R ++ wire_part R)))) ≡ drop 5 b
    rest_forth =
        let long = fine.long in
        rw (counts.0, counts.1, counts.2, parts_forth)
        (ap (λ (l : List ℕ). u16_bytes (node_count b) ++ (u16_bytes (edge_count b) ++ l)) (byte_on b 9 (omega arith))
        ∙ ap (◌++◌ (u16_bytes (node_count b))) (u16_on b small 7 (omega arith))
        ∙ u16_on b small 5 (omega arith))

    -- What is read from a sound record is written as the same bytes.
    pub written_read : write_network f (read_network f b) ≡ b
    unfolding write_network
    written_read =
        let long = fine.long in
        rw rest_forth (record_on b small f (omega arith) fine.version (fine.said ∙ fine.whole))

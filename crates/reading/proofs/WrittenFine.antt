-- A sound network whose numbers fit, written, is a record of which none of 1 to 10 is refused.
--     sound_fine       bytes that are formed and say a sound network
--     written_fine     the bytes that are written of one
use mathlib.Core.Path.{◌≡◌, refl, sym, ◌∙◌, subst}
use mathlib.Core.Bool.{Bool, true, false, not, ◌||◌}
use mathlib.Core.List.{List, [], ◌∷◌, ◌++◌}
use mathlib.Core.Option.{some}
use Prim.Native.Nat.{ℕ, suc, ◌+◌, ◌*◌, ◌≤◌, ◌<◌}
use native.Mathlib.Nat.{mul-le-mul}
use native.Mathlib.Omega.{arith}
use lib.Dec.{eqb}
use lib.ListN.{length, get_or}
use borrow.Author.Tests.{le-leb, ne_eqb, not-true}
use Rattle.lists.specs.All.{All, any}
use Rattle.lists.proofs.All.{all_append}
use Rattle.lists.specs.Bytes.{Bytes}
use Rattle.lists.proofs.Codec.{rows_small, rows_made, small_bytes}
use Rattle.lists.proofs.Filter.{filter_map_all}
use Rattle.lists.specs.First.{every}
use Rattle.lists.proofs.Rising.{least_ext}
use Rattle.lists.proofs.Rows.{length_rows, rows_all}
use Rattle.lists.specs.Stride.{at}
use Rattle.lists.proofs.Table.{rows_rise}
use Rattle.lists.proofs.Test.{and_i}
use Rattle.numbers.specs.BigEndian.{u16_at, u32_at}
use Rattle.routes.specs.Form.{policy_at, route_at}
use Rattle.routes.proofs.PolicyCodec.{policy}
use Rattle.routes.specs.declared.Route.{Route}
use Rattle.networks.specs.Network.{Input, wire_key, box_id, as_input, own_boxes}
use Rattle.networks.specs.Sound.{Sound, Joined, sends}
use Rattle.layout.specs.Form.{node_width, Usable, versioned}
use Rattle.layout.specs.Layout.{node_count, edge_count, policy_count, policy_offset, node_part, edge_part, node_offset, edge_offset, total}
use Rattle.nodes.specs.Node.{node_id, node_ok, node_formed, ownless, is_own}
use Rattle.records.specs.Edge.{edge_to, edge_from, edge_policy, edge_ok, left_by, input_ok}
use Rattle.nodes.specs.Policy.{policy_ok}
use Rattle.records.specs.Network.{NetworkFine}
use Rattle.layout.specs.declared.Form.{Form}
use Rattle.reading.specs.Parts.{box_at, wire_at}
use Rattle.reading.specs.Whole.{HouseNetwork, bounds, read_network, write_network}
use Rattle.reading.proofs.BoxCodec.{box}
use Rattle.reading.proofs.RowCodecs.{wire}
use Rattle.reading.proofs.Said.{read_ids, read_keys, owns_read, has_box_read, own_read, sends_read, Edge, parts_edge}
use Rattle.reading.proofs.ReadSound.{some_own_boxes}
use Rattle.reading.proofs.NetworkBytes.{NetworkFits, policy_part, box_part, wire_part, head, written, node_count_lem, edge_count_lem, policy_count_lem, node_part_lem, edge_part_lem, length_wires, parts_length, length_parts, length_written, parts_counted, read_written}
use Rattle.layout.proofs.OneForm.{version_test}

length_any : {A : Type 0} (xs : List A) → 0 < length xs → any (λ (x : A). true) xs ≡ true
length_any [] h = absurd (omega arith)
length_any (x ∷ xs) h = refl

input_at : (w : ℕ) (b : List ℕ) (o : ℕ) → eqb (get_or b (o + 2) 0) 0 ≡ false → as_input (box_at w b o) ≡ some (record { id = u16_at b o; assumed = route_at w b (o + 3) })
unfolding box_at
input_at w b o q = rw q

-- the frame: 1 to 5
pub record Framed (f : Form) (b : List ℕ) : Type 0 where
  pub long : 10 ≤ length b
  pub version : versioned f b ≡ true
  pub said : u32_at b 0 + 4 ≡ total f b
  pub whole : total f b ≡ length b

module _ (f : Form) (b : List ℕ) (frame : Framed f b)
    (policies : (i : ℕ) → i < policy_count b → policy_ok b i ≡ true)
    (nodes : (i : ℕ) → i < node_count b → node_formed f.route b (node_offset f b i) ≡ true)
    (sound : Sound (bounds f) (read_network f b)) where
  abbrev N : HouseNetwork
  N = read_network f b

  counts : (length N.boxes ≡ node_count b) × (length N.wires ≡ edge_count b) × (length N.policies ≡ policy_count b)
  unfolding read_network
  counts = (
    length_rows (box_at f.route b) (node_width f) (node_part b) (node_count b),
    length_rows (wire_at b) 5 (edge_part f b) (edge_count b),
    length_rows (policy_at b) 13 10 (policy_count b),
  )

  node_ok_lem : (i : ℕ) → i < node_count b → node_ok f b i ≡ true
  unfolding node_ok read_network
  node_ok_lem i l = and_i _ _
      (le-leb _ _ (least_ext _ _ (read_ids f b) i (rows_rise box_id (box_at f.route b) (node_width f) (node_part b) (node_count b) sound.boxes_rise i l)))
      (nodes i l)

  some_own : ownless f b ≡ false
  some_own = not-true (ownless f b) (sym (own_read f b) ∙ some_own_boxes N.boxes ∙ length_any (own_boxes N) sound.some_own)

  edge_facts : (j : ℕ) → j < edge_count b → Edge f b j
  unfolding read_network wire_at edge_to edge_from edge_policy edge_offset
  edge_facts j l =
      let e = rows_all (wire_at b) 5 (Joined N) (edge_part f b) (edge_count b) sound.wires_joined j l in
      record {
        rises = least_ext _ _ (read_keys f b) j (rows_rise wire_key (wire_at b) 5 (edge_part f b) (edge_count b) sound.wires_rise j l);
        to_own = sym (owns_read f b _) ∙ e.to_own;
        from_there = sym (has_box_read f b _) ∙ e.from_there;
        differ = ne_eqb _ _ e.differ;
        policy_there = subst (λ (k : ℕ). edge_policy f b j < k) counts.2 e.policy_there;
      }

  edge_ok_lem : (j : ℕ) → j < edge_count b → edge_ok f b j ≡ true
  edge_ok_lem j l = parts_edge f b j (edge_facts j l)

  -- a row that is no own box's is an input's, and a wire leads out of it
  input_ok_lem : (i : ℕ) → i < node_count b → input_ok f b i ≡ true
  unfolding input_ok left_by is_own node_id node_offset read_network
  input_ok_lem i l = go (eqb (get_or b (at (node_part b) (node_width f) i + 2) 0) 0) refl
    where
      o : ℕ
      o = at (node_part b) (node_width f) i

      used : (a : Input Route) → as_input (box_at f.route b o) ≡ some a → sends N a.id ≡ true
      used = rows_all (box_at f.route b) (node_width f) _ (node_part b) (node_count b) (filter_map_all _ as_input N.boxes sound.inputs_used) i l

      go : (t : Bool) → eqb (get_or b (o + 2) 0) 0 ≡ t → t || not (every (λ j. not (eqb (edge_from f b j) (u16_at b o))) (edge_count b)) ≡ true
      go true q = refl
      go false q = sym (sends_read f b (u16_at b o)) ∙ used (record { id = u16_at b o; assumed = route_at f.route b (o + 3) }) (input_at f.route b o q)

  pub sound_fine : NetworkFine f b
  sound_fine = record {
    long = frame.long;
    version = frame.version;
    few_nodes = rw (← counts.0) sound.boxes_within;
    few_edges = rw (← counts.1) sound.wires_within;
    few_policies = rw (← counts.2) sound.policies_within;
    said = frame.said;
    whole = frame.whole;
    policies = policies;
    nodes = node_ok_lem;
    own = some_own;
    edges = edge_ok_lem;
    inputs = input_ok_lem;
  }

-- the bytes that are written
module _ (f : Form) (usable : Usable f) (N : HouseNetwork) (sound : Sound (bounds f) N) (fits : NetworkFits N) where
  abbrev W : List ℕ
  W = write_network f N

  abbrev enough : 9 ≤ f.route
  enough = usable.wide

  -- the length that the record says: what follows the length field
  abbrev said : ℕ
  said = suc (suc (suc (suc (suc (length (policy_part f enough N ++ (box_part f enough N ++ wire_part f enough N))))))) + 1

  total_written : total f W ≡ 10 + parts_length f enough N
  unfolding edge_offset at
  total_written =
      let wires = length_wires f enough N in
      rw (edge_part_lem f enough N, edge_count_lem f enough N) (omega arith)

  said_written : u32_at W 0 ≡ said
  unfolding u32_at u16_at
  said_written = rw (written f enough N) (omega arith)

  framed : Framed f W
  framed = record {
    long = let e = length_written f enough N in omega arith;
    version = version_test f W (rw (written f enough N) refl);
    said = let e = said_written in let g = total_written in let h = length_parts f enough N in omega arith;
    whole = total_written ∙ sym (length_written f enough N);
  }

  -- the record is far shorter than its length field could say
  short : said < 65536 * 65536
  short =
      let narrow = usable.narrow in
      let few = usable.few in
      let most : length N.boxes ≤ 1024 = let h = sound.boxes_within in omega arith in
      let area = mul-le-mul most (let h = narrow in row h) in
      let e = length_parts f enough N in
      let c = parts_counted f enough N in
      omega (arith, sound.wires_within, sound.policies_within)
    where
      row : f.route ≤ 16 → 9 + f.route + f.route ≤ 41
      row h = omega arith

  small_head : All (λ (x : ℕ). x < 256) (head f enough N)
  small_head =
      let s = short in
      let few = usable.few in
      let b = sound.boxes_within in
      let w = sound.wires_within in
      let p = sound.policies_within in
      (omega arith, (omega arith, (omega arith, (omega arith, (omega arith, (omega arith, (omega arith, (omega arith, (omega arith, (omega arith, tt))))))))))

  -- what is written is bytes
  pub small_written : Bytes W
  small_written = small_bytes W (subst (All (λ (x : ℕ). x < 256)) (sym (written f enough N))
      (all_append (λ (x : ℕ). x < 256) (head f enough N) (policy_part f enough N ++ (box_part f enough N ++ wire_part f enough N)) small_head
      (all_append (λ (x : ℕ). x < 256) (policy_part f enough N) (box_part f enough N ++ wire_part f enough N) (rows_small policy N.policies fits.policies_fit)
      (all_append (λ (x : ℕ). x < 256) (box_part f enough N) (wire_part f enough N) (rows_small (box f.route enough) N.boxes fits.boxes_fit) (rows_small wire N.wires fits.wires_fit)))))

  policies_formed : (i : ℕ) → i < policy_count W → policy_ok W i ≡ true
  unfolding policy_ok policy_offset
  policies_formed i l =
      (rows_made policy N.policies (head f enough N) (box_part f enough N ++ wire_part f enough N) W 10 (written f enough N) refl fits.policies_fit small_written i (rw (← policy_count_lem f enough N) l)).1

  nodes_formed : (i : ℕ) → i < node_count W → node_formed f.route W (node_offset f W i) ≡ true
  unfolding node_offset node_width
  nodes_formed i l =
      (rows_made (box f.route enough) N.boxes (head f enough N ++ policy_part f enough N) (wire_part f enough N) W (node_part W)
      (written f enough N) (let e = node_part_lem f enough N in omega arith) fits.boxes_fit small_written i (rw (← node_count_lem f enough N) l)).1

  -- none of 1 to 10 applies to what is written
  pub written_fine : NetworkFine f W
  written_fine = sound_fine f W framed policies_formed nodes_formed (subst (Sound (bounds f)) (sym (read_written f enough N fits)) sound)

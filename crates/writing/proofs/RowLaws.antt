-- One node and one edge, as the code lays them.
--     four_over             four runs, each stored where the one before ends
--     node, edge            as they stand in a record
--     promised, input       with another promise; as an input
use Prim.Native.Nat.{ℕ, suc, ◌+◌, ◌-◌, ◌≤◌}
use native.Mathlib.Omega.{arith}
use mathlib.Core.List.{List, [], ◌∷◌, ◌++◌, append_assoc}
use mathlib.Core.Path.{◌≡◌, refl, sym, ap, ap₂, ◌∙◌}
use lib.ListN.{length, take, drop, replicate, replicate-append-replicate}
use lib.Seq.{sets}
use Rattle.lists.proofs.Codec.{byte, pair}
use Rattle.lists.specs.Laid.{over}
use Rattle.lists.proofs.Laid.{stored_on, stored_over}
use Rattle.numbers.specs.BigEndian.{u16_at, u16_bytes}
use Rattle.numbers.proofs.Codecs.{u16, length_u16}
use Rattle.numbers.proofs.RunLaws.{part_long}
use Rattle.routes.specs.Form.{route_at, route_bytes}
use Rattle.routes.proofs.RouteCodec.{route}
use Rattle.routes.specs.declared.Demand.{Demand}
use Rattle.routes.specs.declared.Route.{Route}
use Rattle.networks.specs.Network.{Box, input}
use Rattle.layout.specs.Form.{Usable, node_width}
use Rattle.layout.specs.declared.Form.{Form}
use Rattle.reading.specs.Parts.{box_at, box_bytes, promise_bytes, demand_at, demand_bytes, wire_at, wire_bytes}
use Rattle.reading.proofs.BoxCodec.{box, node_tests}
use Rattle.reading.proofs.DemandCodec.{demand}
use Rattle.reading.proofs.RowCodecs.{wire}
use Rattle.writing.specs.Rows.{promised_at, NodeAt, OwnAt, RouteAt, EdgeAt}
use mathlib.Core.Option.{none}
use Rattle.routes.specs.declared.Demand.TheVariants.{Nothing}

four_over : (out one two three four a b c d row : List ℕ) (x y z : ℕ) → row ≡ a ++ (b ++ (c ++ d)) → length row ≤ length out → x ≡ length a → y ≡ x + length b
    → z ≡ y + length c → one ≡ sets out 0 a → two ≡ sets one x b → three ≡ sets two y c → four ≡ sets three z d → four ≡ over row out
four_over out one two three four a b c d row x y z e room i j k p q r s =
    stored_over out four row room
    (rw e (stored_on out one four 0 x a (b ++ (c ++ d)) p (omega arith) (stored_on one two four x y b (c ++ d) q j (stored_on two three four y z c d r k s))))

-- every node of a form is as wide
module _ (f : Form) (usable : Usable f) where
  pub box_long : (v : Box Route Demand) → length (box_bytes f.route v) ≡ node_width f
  unfolding node_width
  box_long v = (box f.route usable.wide).size v

-- a route's bytes are those that it was read from
module _ (f : Form) (b : List ℕ) (o : ℕ) (h : RouteAt f b o) where
  copied : route_bytes f.route (route_at f.route b o) ≡ take f.route (drop o b)
  copied = (route f.route h.usable.wide).forth b o h.there (h.bytes, h.formed)

  copied_long : f.route ≡ length (take f.route (drop o b))
  copied_long = sym (part_long b o f.route h.there)

-- a node is its id, its kind, its route, and zeros behind it where it is an input
module _ (f : Form) (b : List ℕ) (o : ℕ) (h : RouteAt f b o) (id size : ℕ) (s : size ≡ node_width f) where
  abbrev w : ℕ
  w = f.route

  abbrev assumed : Box Route Demand
  assumed = input (record { id = id; assumed = route_at w b o })

  blank : promise_bytes w none ++ demand_bytes Nothing ≡ replicate (6 + w) 0
  unfolding promise_bytes demand_bytes route_bytes u16_bytes
  blank = ap (λ (z : List ℕ). 0 ∷ z) (replicate-append-replicate w 5 0) ∙ ap (λ (n : ℕ). replicate n 0) (let e : suc (w + 5) ≡ 6 + w = omega arith in e)

  pub input_size : size ≡ length (box_bytes w assumed)
  input_size = s ∙ sym (box_long f h.usable assumed)

  pub input_laid : (out one two three four : List ℕ) → node_width f ≤ length out → one ≡ sets out 0 (u16_bytes id) → two ≡ sets one 2 (1 ∷ [])
      → three ≡ sets two 3 (take w (drop o b)) → four ≡ sets three (3 + w) (replicate (size - (3 + w)) 0) → four ≡ over (box_bytes w assumed) out
  unfolding box_bytes node_width
  input_laid out one two three four room p q t u =
      let zeros : 6 + w ≡ size - (3 + w) = omega arith in
      four_over out one two three four (u16_bytes id) (1 ∷ []) (take w (drop o b)) (replicate (size - (3 + w)) 0) (box_bytes w assumed) 2 3 (3 + w)
      (ap₂ (λ (x z : List ℕ). u16_bytes id ++ (1 ∷ (x ++ z))) (copied f b o h) (blank ∙ ap (λ (n : ℕ). replicate n 0) zeros))
      (omega (arith, input_size)) (sym (length_u16 id)) refl (ap (λ (n : ℕ). 3 + n) (copied_long f b o h)) p q t u

pub ruleset inputs = (input_size, input_laid)

module _ (f : Form) (b : List ℕ) (o : ℕ) (n : NodeAt f b o) (size : ℕ) (s : size ≡ node_width f) where
  abbrev w' : ℕ
  w' = f.route

  pub node_size : size ≡ length (box_bytes w' (box_at w' b o))
  node_size = s ∙ sym (box_long f n.usable _)

  pub node_laid : (out out' : List ℕ) → node_width f ≤ length out → out' ≡ sets out 0 (take size (drop o b)) → out' ≡ over (box_bytes w' (box_at w' b o)) out
  unfolding node_width
  node_laid out out' room e =
      stored_over out out' _ (omega (arith, node_size)) (e ∙ rw s (ap (sets out 0) (sym ((box w' n.usable.wide).forth b o n.there (n.bytes, n.formed)))))

pub ruleset nodes = (node_size, node_laid)

module _ (f : Form) (b : List ℕ) (o : ℕ) (n : OwnAt f b o) (sheet : List ℕ) (note : ℕ) (h : RouteAt f sheet note) (size : ℕ) (s : size ≡ node_width f) where
  abbrev v : ℕ
  v = f.route

  enough : 9 ≤ v
  enough = n.node.usable.wide

  room_in : o + (9 + v + v) ≤ length b
  unfolding node_width
  room_in = n.node.there

  -- id, kind and route, which are copied
  lead_bytes : u16_bytes (u16_at b o) ++ ((0 ∷ []) ++ route_bytes v (route_at v b (o + 3))) ≡ take (3 + v) (drop o b)
  lead_bytes =
      let three : o + 3 ≡ o + 2 + 1 = omega arith in
      let long : 3 + v ≡ 2 + (1 + v) = omega arith in
      let small = n.node.bytes in
      rw (three, long)
      (ap (λ (x : ℕ). u16_bytes (u16_at b o) ++ ((x ∷ []) ++ route_bytes v (route_at v b (o + 2 + 1)))) (sym n.ours)
      ∙ (pair u16 (pair byte (route v enough))).forth b o (let fits = room_in in omega arith)
      ((small o, small (o + 1)), (tt, (small, (node_tests v enough b o n.node.formed).routed))))

  -- and the demand
  demand_bytes_lem : demand_bytes (demand_at b (o + 4 + v + v)) ≡ take (size - (3 + v + 1 + v)) (drop (o + (3 + v + 1 + v)) b)
  unfolding node_width
  demand_bytes_lem =
      let here : o + 2 + 1 + v + (1 + v) ≡ o + 4 + v + v = omega arith in
      let there : o + (3 + v + 1 + v) ≡ o + 4 + v + v = omega arith in
      let five : size - (3 + v + 1 + v) ≡ 5 = omega arith in
      rw (there, five)
      (demand.forth b (o + 4 + v + v) (let fits = room_in in omega arith) (n.node.bytes, rw here at (node_tests v enough b o n.node.formed).demanded))

  abbrev promised : Box Route Demand
  promised = promised_at v b o (route_at v sheet note)

  pub promised_size : size ≡ length (box_bytes v promised)
  promised_size = s ∙ sym (box_long f n.node.usable promised)

  row : box_bytes v promised ≡ take (3 + v) (drop o b) ++ ((1 ∷ []) ++ (take v (drop note sheet) ++ take (size - (3 + v + 1 + v)) (drop (o + (3 + v + 1 + v)) b)))
  unfolding box_bytes promise_bytes promised_at
  row =
      sym (append_assoc (u16_bytes (u16_at b o)) ((0 ∷ []) ++ route_bytes v (route_at v b (o + 3))) _)
      ∙ ap₂ ◌++◌ lead_bytes (ap₂ (λ (x y : List ℕ). 1 ∷ (x ++ y)) (copied f sheet note h) demand_bytes_lem)

  pub promised_laid : (out one two three four : List ℕ) → node_width f ≤ length out → one ≡ sets out 0 (take (3 + v) (drop o b)) → two ≡ sets one (3 + v) (1 ∷ [])
      → three ≡ sets two (3 + v + 1) (take v (drop note sheet)) → four ≡ sets three (3 + v + 1 + v) (take (size - (3 + v + 1 + v)) (drop (o + (3 + v + 1 + v)) b))
      → four ≡ over (box_bytes v promised) out
  promised_laid out one two three four room p q t u =
      four_over out one two three four (take (3 + v) (drop o b)) (1 ∷ []) (take v (drop note sheet))
      (take (size - (3 + v + 1 + v)) (drop (o + (3 + v + 1 + v)) b)) (box_bytes v promised) (3 + v) (3 + v + 1) (3 + v + 1 + v)
      row (omega (arith, promised_size))
      (sym (part_long b o (3 + v) (let fits = room_in in omega arith))) refl (ap (λ (k : ℕ). 3 + v + 1 + k) (copied_long f sheet note h)) p q t u

pub ruleset promises = (promised_size, promised_laid)

module _ (b : List ℕ) (o : ℕ) where
  pub edge_size : 5 ≡ length (wire_bytes (wire_at b o))
  edge_size = sym (wire.size (wire_at b o))

  pub edge_laid : (out out' : List ℕ) → EdgeAt b o → 5 ≤ length out → out' ≡ sets out 0 (take 5 (drop o b)) → out' ≡ over (wire_bytes (wire_at b o)) out
  edge_laid out out' n room e = stored_over out out' _ (omega (arith, edge_size)) (e ∙ ap (sets out 0) (sym (wire.forth b o n.there n.bytes)))

pub ruleset edges = (edge_size, edge_laid)

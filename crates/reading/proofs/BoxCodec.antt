-- A box of a network record written and read back, and read and written back: its codec.
-- The bytes that it takes for formed are those that `node_formed` accepts.
use mathlib.Core.Path.{◌≡◌, refl, sym, ap}
use mathlib.Core.Bool.{Bool, true, false, cond, ◌&&◌, ◌||◌}
use mathlib.Core.List.{List}
use mathlib.Core.Option.{Option, none, some, none-ne-some}
use Prim.Native.Nat.{ℕ, ◌+◌, ◌≤◌, ◌<◌}
use native.Mathlib.Omega.{arith}
use lib.Dec.{eqb}
use lib.ListN.{get_or}
use borrow.Author.Tests.{eqb-true}
use Rattle.lists.proofs.Codec.{Codec, byte, pair, named, restated}
use Rattle.lists.specs.Bytes.{Bytes}
use Rattle.lists.proofs.Test.{and_l, and_r}
use Rattle.numbers.specs.BigEndian.{u16_at}
use Rattle.numbers.proofs.Codecs.{u16, u16_below}
use Rattle.numbers.specs.Zeros.{zeros}
use Rattle.routes.specs.Form.{route_at, route_formed}
use Rattle.routes.proofs.RouteCodec.{route, RouteFits, route_read_fits}
use Rattle.routes.specs.declared.Demand.{Demand}
use Rattle.routes.specs.declared.Demand.TheVariants.{Nothing, Hold, HoldNone}
use Rattle.routes.specs.declared.Route.{Route}
use Rattle.networks.specs.Network.{Box, own, input}
use Rattle.nodes.specs.Node.{kind_formed, promise_formed, demand_formed, node_formed}
use Rattle.reading.specs.Parts.{demand_at, promise_at, box_at, box_bytes}
use Rattle.reading.proofs.DemandCodec.{DemandFits, PromiseFits, demand_test, promise_test, demand, promise, demand_read_fits, promise_read_fits}

abbrev pub BoxFits : Box Route Demand → Type 0
BoxFits (own v) = (v.id < 65536) × RouteFits v.initial × PromiseFits v.promise × DemandFits v.demand
BoxFits (input v) = (v.id < 65536) × RouteFits v.assumed

abbrev pub Five : Type 0
Five = ℕ × (ℕ × (Route × (Option Route × Demand)))

abbrev pub to_box : Five → Box Route Demand
to_box x =
    cond (eqb x.1.0 0)
    (own (record { id = x.0; initial = x.1.1.0; promise = x.1.1.1.0; demand = x.1.1.1.1 }))
    (input (record { id = x.0; assumed = x.1.1.0 }))

abbrev pub of_box : Box Route Demand → Five
of_box (own v) = (v.id, (0, (v.initial, (v.promise, v.demand))))
of_box (input v) = (v.id, (1, (v.assumed, (none, Nothing))))

module _ (w : ℕ) (enough : 9 ≤ w) where
  abbrev pub five : Codec Five
  five = pair u16 (pair byte (pair (route w enough) (pair (promise w enough) demand)))

  pub box_fits : (v : Box Route Demand) → BoxFits v → five.Fits (of_box v)
  box_fits (own v) h = (h.0, (omega arith, (h.1, (h.2, h.3))))
  box_fits (input v) h = (h.0, (omega arith, (h.1, (tt, tt))))

  pub box_there : (v : Box Route Demand) → BoxFits v → to_box (of_box v) ≡ v
  box_there (own v) h = refl
  box_there (input v) h = refl

  abbrev pub BoxFormed : List ℕ → ℕ → Type 0
  BoxFormed b o = Bytes b × (node_formed w b o ≡ true)

  -- the four tests of a node, at the offsets of its parts
  pub record Node (b : List ℕ) (o : ℕ) : Type 0 where
    pub kind : kind_formed w b o ≡ true
    pub routed : route_formed w b (o + 2 + 1) ≡ true
    pub promised : promise_test w enough b (o + 2 + 1 + w) ≡ true
    pub demanded : demand_test b (o + 2 + 1 + w + (1 + w)) ≡ true

  pub node_tests : (b : List ℕ) (o : ℕ) → node_formed w b o ≡ true → Node b o
  unfolding node_formed promise_formed demand_formed promise_test demand_test
  node_tests b o h =
      let three : o + 3 ≡ o + 2 + 1 = omega arith in
      let four : o + 4 + w ≡ o + 2 + 1 + w + 1 = omega arith in
      let five : o + 4 + w + w ≡ o + 2 + 1 + w + (1 + w) = omega arith in
      let six : o + 5 + w + w ≡ o + 2 + 1 + w + (1 + w) + 1 = omega arith in
      let k = kind_formed w b o in
      let r = route_formed w b (o + 3) in
      let p = cond (eqb (get_or b (o + 3 + w) 0) 0) (zeros b (o + 4 + w) w) (eqb (get_or b (o + 3 + w) 0) 1 && route_formed w b (o + 4 + w)) in
      let d = cond (eqb (get_or b (o + 4 + w + w) 0) 1) true ((eqb (get_or b (o + 4 + w + w) 0) 0 || eqb (get_or b (o + 4 + w + w) 0) 2) && zeros b (o + 5 + w + w) 4) in
      let h₁ = and_r k (r && (p && d)) h in
      let h₂ = and_r r (p && d) h₁ in
      let promised : p ≡ true = and_l p d h₂ in
      let demanded : d ≡ true = and_r p d h₂ in
      record {
        kind = and_l k (r && (p && d)) h;
        routed = rw three at (and_l r (p && d) h₁);
        promised = rw (three, four) at promised;
        demanded = rw (five, six) at demanded;
      }

  pub tests_node : (b : List ℕ) (o : ℕ) → Node b o → node_formed w b o ≡ true
  unfolding node_formed promise_formed demand_formed promise_test demand_test
  tests_node b o n =
      let three : o + 3 ≡ o + 2 + 1 = omega arith in
      let four : o + 4 + w ≡ o + 2 + 1 + w + 1 = omega arith in
      let five : o + 4 + w + w ≡ o + 2 + 1 + w + (1 + w) = omega arith in
      let six : o + 5 + w + w ≡ o + 2 + 1 + w + (1 + w) + 1 = omega arith in
      rw (n.kind, five, six, n.demanded, three, four, n.routed, n.promised)

  pub box_formed : (b : List ℕ) (o : ℕ) → BoxFormed b o → five.Formed b o
  box_formed b o h =
      let z = h.0 in
      let n = node_tests b o h.1 in
      ((z o, z (o + 1)), (tt, ((z, n.routed), ((z, n.promised), (z, n.demanded)))))

  -- an input promises nothing and has demand 0
  pub record Plain (b : List ℕ) (o : ℕ) : Type 0 where
    pub kind : 1 ≡ get_or b (o + 2) 0
    pub promise : none ≡ promise_at w b (o + 2 + 1 + w)
    pub demand : Nothing ≡ demand_at b (o + 2 + 1 + w + (1 + w))

  pub input_plain : (b : List ℕ) (o : ℕ) → kind_formed w b o ≡ true → eqb (get_or b (o + 2) 0) 0 ≡ false → Plain b o
  unfolding kind_formed promise_at demand_at
  input_plain b o h q =
      let k = eqb (get_or b (o + 2) 0) 1 in
      let p = eqb (get_or b (o + 3 + w) 0) 0 in
      let d = eqb (get_or b (o + 4 + w + w) 0) 0 in
      let e : k && (p && d) ≡ true = rw q at h in
      let three : o + 3 + w ≡ o + 2 + 1 + w = omega arith in
      let five : o + 4 + w + w ≡ o + 2 + 1 + w + (1 + w) = omega arith in
      let flag : p ≡ true = and_l p d (and_r k (p && d) e) in
      let asked : d ≡ true = and_r p d (and_r k (p && d) e) in
      let flag' = rw three at flag in
      let asked' = rw five at asked in
      record { kind = sym (eqb-true (get_or b (o + 2) 0) 1 (and_l k (p && d) e)); promise = rw flag'; demand = rw asked' }

  pub box_here : (b : List ℕ) (o : ℕ) → BoxFormed b o → of_box (to_box (five.value b o)) ≡ five.value b o
  box_here b o h = go (eqb (get_or b (o + 2) 0) 0) refl
    where
      v : Five
      v = five.value b o

      go : (t : Bool) → eqb (get_or b (o + 2) 0) 0 ≡ t
          → of_box (cond t (own (record { id = v.0; initial = v.1.1.0; promise = v.1.1.1.0; demand = v.1.1.1.1 })) (input (record { id = v.0; assumed = v.1.1.0 }))) ≡ v
      go true q = λ i. (v.0, (sym (eqb-true (get_or b (o + 2) 0) 0 q) i, v.1.1))
      go false q =
          let x = input_plain b o (node_tests b o h.1).kind q in
          λ i. (v.0, (x.kind i, (v.1.1.0, (x.promise i, x.demand i))))

  -- a flag and a demand by what they say
  no_promise : (b : List ℕ) (o : ℕ) → promise_at w b o ≡ none → eqb (get_or b o 0) 0 ≡ true
  unfolding promise_at
  no_promise b o = go (eqb (get_or b o 0) 0)
    where
      go : (t : Bool) → cond t none (some (route_at w b (o + 1))) ≡ none → t ≡ true
      go true e = refl
      go false e = absurd (none-ne-some _ (sym e))

  no_demand : (b : List ℕ) (o : ℕ) → demand_at b o ≡ Nothing → eqb (get_or b o 0) 0 ≡ true
  unfolding demand_at
  no_demand b o = go (eqb (get_or b o 0) 0) (eqb (get_or b o 0) 1)
    where
      go : (s t : Bool) → cond s Nothing (cond t (Hold (u16_at b (o + 1)) (u16_at b (o + 3))) HoldNone) ≡ Nothing → s ≡ true
      go true t e = refl
      go false true e = absurd (let z : ◌≡◌ {A = ℕ} 0 1 = cc in omega arith)
      go false false e = absurd (let z : ◌≡◌ {A = ℕ} 0 1 = cc in omega arith)

  -- bytes that hold a box are formed
  pub box_made : (b : List ℕ) (o : ℕ) (v : Box Route Demand) → BoxFits v → Bytes b → five.Formed b o → five.value b o ≡ of_box v → BoxFormed b o
  unfolding kind_formed
  box_made b o v h z formed e = (z, tests_node b o (record { kind = kind v e; routed = formed.1.1.0.1; promised = formed.1.1.1.0.1; demanded = formed.1.1.1.1.1 }))
    where
      kind : (v : Box Route Demand) → five.value b o ≡ of_box v → kind_formed w b o ≡ true
      kind (own v) e = let first : get_or b (o + 2) 0 ≡ 0 = ap (λ (x : Five). x.1.0) e in rw first
      kind (input v) e =
          let first : get_or b (o + 2) 0 ≡ 1 = ap (λ (x : Five). x.1.0) e in
          let three : o + 3 + w ≡ o + 2 + 1 + w = omega arith in
          let five : o + 4 + w + w ≡ o + 2 + 1 + w + (1 + w) = omega arith in
          rw (first, three, five, no_promise b (o + 2 + 1 + w) (ap (λ (x : Five). x.1.1.1.0) e), no_demand b (o + 2 + 1 + w + (1 + w)) (ap (λ (x : Five). x.1.1.1.1) e))

  abbrev pub box_parts : Codec (Box Route Demand)
  box_parts = named five to_box of_box BoxFits BoxFormed box_fits box_there box_formed box_here box_made

  pub box_bytes_lem : (v : Box Route Demand) → box_bytes w v ≡ box_parts.bytes v
  unfolding box_bytes
  box_bytes_lem (own v) = refl
  box_bytes_lem (input v) = refl

  pub box_value : (b : List ℕ) (o : ℕ) → box_at w b o ≡ box_parts.value b o
  unfolding box_at
  box_value b o =
      let three : o + 3 ≡ o + 2 + 1 = omega arith in
      let five : o + 4 + w + w ≡ o + 2 + 1 + w + (1 + w) = omega arith in
      rw (three, five)

  -- A box of 9 + w + w bytes, both ways.
  abbrev pub box : Codec (Box Route Demand)
  box = restated box_parts (9 + w + w) (box_bytes w) (box_at w) (omega arith) box_bytes_lem box_value

pub box_read_fits : (w : ℕ) (b : List ℕ) (o : ℕ) → Bytes b → BoxFits (box_at w b o)
unfolding box_at
box_read_fits w b o z = go (eqb (get_or b (o + 2) 0) 0)
  where
    id_fits : u16_at b o < 65536
    id_fits = u16_below b o (z o, z (o + 1))

    go : (t : Bool) → BoxFits (cond t
        (own (record { id = u16_at b o; initial = route_at w b (o + 3); promise = promise_at w b (o + 3 + w); demand = demand_at b (o + 4 + w + w) }))
        (input (record { id = u16_at b o; assumed = route_at w b (o + 3) })))
    go true = (id_fits, route_read_fits w b (o + 3) z, promise_read_fits w b (o + 3 + w) z, demand_read_fits b (o + 4 + w + w) z)
    go false = (id_fits, route_read_fits w b (o + 3) z)

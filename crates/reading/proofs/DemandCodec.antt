-- A demand and a promise written and read back, and read and written back: their codecs.
use mathlib.Core.Path.{◌≡◌, refl, sym, ap}
use mathlib.Core.Bool.{Bool, true, false, cond, ◌&&◌, ◌||◌}
use mathlib.Core.List.{List}
use mathlib.Core.Option.{Option, none, some}
use Prim.Native.Nat.{ℕ, zero, suc, ◌+◌, ◌≤◌, ◌<◌}
use native.Mathlib.Nat.{add-zero}
use native.Mathlib.Omega.{arith}
use lib.Dec.{eqb}
use lib.ListN.{get_or}
use borrow.Author.Tests.{eqb-true}
use Rattle.lists.proofs.Codec.{Codec, byte, pair, named, restated}
use Rattle.lists.specs.Bytes.{Bytes}
use Rattle.lists.proofs.Test.{and_l, and_r}
use Rattle.numbers.specs.BigEndian.{u16_at, u16_bytes}
use Rattle.numbers.proofs.Codecs.{u16, u16_below}
use Rattle.numbers.specs.Zeros.{zeros}
use Rattle.routes.specs.Form.{route_at, route_formed}
use Rattle.routes.proofs.RouteCodec.{route, RouteFits, route_read_fits, all_zeros, zero_bytes, zeros_number, zeros_route, none_zeros}
use Rattle.routes.specs.declared.Demand.{Demand}
use Rattle.routes.specs.declared.Demand.TheVariants.{Nothing, Hold, HoldNone}
use Rattle.routes.specs.declared.Route.{Route}
use Rattle.routes.specs.declared.Route.TheVariants.{None}
use Rattle.reading.specs.Parts.{demand_at, demand_bytes, promise_at, promise_bytes}

-- a demand: its byte, and two numbers
abbrev pub DemandFits : Demand → Type 0
DemandFits Nothing = Unit {0}
DemandFits (Hold ceiling tags) = (ceiling < 65536) × (tags < 65536)
DemandFits HoldNone = Unit {0}

abbrev pub Three : Type 0
Three = ℕ × (ℕ × ℕ)

abbrev pub three : Codec Three
three = pair byte (pair u16 u16)

abbrev pub to_demand : Three → Demand
to_demand x = cond (eqb x.0 0) Nothing (cond (eqb x.0 1) (Hold x.1.0 x.1.1) HoldNone)

abbrev pub of_demand : Demand → Three
of_demand Nothing = (0, (0, 0))
of_demand (Hold ceiling tags) = (1, (ceiling, tags))
of_demand HoldNone = (2, (0, 0))

-- the test of a demand's five bytes
unfoldable pub demand_test : List ℕ → ℕ → Bool
demand_test b o = cond (eqb (get_or b o 0) 1) true ((eqb (get_or b o 0) 0 || eqb (get_or b o 0) 2) && zeros b (o + 1) 4)

abbrev pub DemandFormed : List ℕ → ℕ → Type 0
DemandFormed b o = Bytes b × (demand_test b o ≡ true)

pub demand_fits : (d : Demand) → DemandFits d → three.Fits (of_demand d)
demand_fits Nothing h = (omega arith, (omega arith, omega arith))
demand_fits (Hold ceiling tags) h = (omega arith, (h.0, h.1))
demand_fits HoldNone h = (omega arith, (omega arith, omega arith))

pub demand_there : (d : Demand) → DemandFits d → to_demand (of_demand d) ≡ d
demand_there Nothing h = refl
demand_there (Hold ceiling tags) h = refl
demand_there HoldNone h = refl

pub demand_formed_lem : (b : List ℕ) (o : ℕ) → DemandFormed b o → three.Formed b o
demand_formed_lem b o h = let z = h.0 in (tt, ((z (o + 1), z (o + 1 + 1)), (z (o + 1 + 2), z (o + 1 + 2 + 1))))

pub demand_here : (b : List ℕ) (o : ℕ) → DemandFormed b o → of_demand (to_demand (three.value b o)) ≡ three.value b o
unfolding demand_test
demand_here b o h = go (eqb (get_or b o 0) 0) refl (eqb (get_or b o 0) 1) refl h.1
  where
    v : Three
    v = three.value b o

    blank : zeros b (o + 1) 4 ≡ true → (0 ≡ v.1.0) × (0 ≡ v.1.1)
    blank e = (sym (rw add-zero at (zeros_number b (o + 1) 4 e 0 (omega arith))), sym (zeros_number b (o + 1) 4 e 2 (omega arith)))

    go : (s : Bool) → eqb (get_or b o 0) 0 ≡ s → (t : Bool) → eqb (get_or b o 0) 1 ≡ t → cond t true ((s || eqb (get_or b o 0) 2) && zeros b (o + 1) 4) ≡ true
        → of_demand (cond s Nothing (cond t (Hold v.1.0 v.1.1) HoldNone)) ≡ v
    go true p true q e = absurd (let x = eqb-true (get_or b o 0) 0 p in let y = eqb-true (get_or b o 0) 1 q in omega arith)
    go true p false q e = let z = blank (and_r (true || eqb (get_or b o 0) 2) (zeros b (o + 1) 4) e) in λ i. (sym (eqb-true (get_or b o 0) 0 p) i, (z.0 i, z.1 i))
    go false p true q e = λ i. (sym (eqb-true (get_or b o 0) 1 q) i, v.1)
    go false p false q e =
        let z = blank (and_r (eqb (get_or b o 0) 2) (zeros b (o + 1) 4) e) in
        let two = eqb-true (get_or b o 0) 2 (and_l (eqb (get_or b o 0) 2) (zeros b (o + 1) 4) e) in
        λ i. (sym two i, (z.0 i, z.1 i))

four_zeros : (b : List ℕ) (o : ℕ) → u16_at b o ≡ 0 → u16_at b (o + 2) ≡ 0 → zeros b o 4 ≡ true
four_zeros b o p q = all_zeros b o 4 at
  where
    low : (get_or b o 0 ≡ 0) × (get_or b (o + 1) 0 ≡ 0)
    low = zero_bytes b o p

    high : (get_or b (o + 2) 0 ≡ 0) × (get_or b (o + 2 + 1) 0 ≡ 0)
    high = zero_bytes b (o + 2) q

    at : (k : ℕ) → k < 4 → get_or b (o + k) 0 ≡ 0
    at zero l = rw add-zero low.0
    at (suc zero) l = low.1
    at (suc (suc zero)) l = high.0
    at (suc (suc (suc zero))) l = let next : o + 3 ≡ o + 2 + 1 = omega arith in rw next high.1
    at (suc (suc (suc (suc k)))) l = absurd (omega arith)

-- bytes that hold a demand are formed
pub demand_made : (b : List ℕ) (o : ℕ) (d : Demand) → DemandFits d → Bytes b → three.Formed b o → three.value b o ≡ of_demand d → DemandFormed b o
unfolding demand_test
demand_made b o Nothing h z formed e =
    let first : get_or b o 0 ≡ 0 = ap (λ (x : Three). x.0) e in
    (z, rw (first, four_zeros b (o + 1) (ap (λ (x : Three). x.1.0) e) (ap (λ (x : Three). x.1.1) e)))
demand_made b o (Hold ceiling tags) h z formed e =
    let first : get_or b o 0 ≡ 1 = ap (λ (x : Three). x.0) e in
    (z, rw first)
demand_made b o HoldNone h z formed e =
    let first : get_or b o 0 ≡ 2 = ap (λ (x : Three). x.0) e in
    (z, rw (first, four_zeros b (o + 1) (ap (λ (x : Three). x.1.0) e) (ap (λ (x : Three). x.1.1) e)))

abbrev pub demand_parts : Codec Demand
demand_parts = named three to_demand of_demand DemandFits DemandFormed demand_fits demand_there demand_formed_lem demand_here demand_made

pub demand_bytes_lem : (d : Demand) → demand_bytes d ≡ demand_parts.bytes d
unfolding demand_bytes u16_bytes
demand_bytes_lem Nothing = refl
demand_bytes_lem (Hold ceiling tags) = refl
demand_bytes_lem HoldNone = refl

pub demand_value : (b : List ℕ) (o : ℕ) → demand_at b o ≡ demand_parts.value b o
unfolding demand_at
demand_value b o = let three : o + 3 ≡ o + 1 + 2 = omega arith in rw three

abbrev pub demand : Codec Demand
demand = restated demand_parts 5 demand_bytes demand_at refl demand_bytes_lem demand_value

pub demand_read_fits : (b : List ℕ) (o : ℕ) → Bytes b → DemandFits (demand_at b o)
unfolding demand_at
demand_read_fits b o z = go (eqb (get_or b o 0) 0) (eqb (get_or b o 0) 1)
  where
    below : (k : ℕ) → u16_at b k < 65536
    below k = u16_below b k (z k, z (k + 1))

    go : (s t : Bool) → DemandFits (cond s Nothing (cond t (Hold (u16_at b (o + 1)) (u16_at b (o + 3))) HoldNone))
    go true t = tt
    go false true = (below (o + 1), below (o + 3))
    go false false = tt

-- a promise: its flag, and a route of w bytes
abbrev pub PromiseFits : Option Route → Type 0
PromiseFits none = Unit {0}
PromiseFits (some r) = RouteFits r

abbrev pub to_promise : ℕ × Route → Option Route
to_promise x = cond (eqb x.0 0) none (some x.1)

abbrev pub of_promise : Option Route → ℕ × Route
of_promise none = (0, None)
of_promise (some r) = (1, r)

module _ (w : ℕ) (enough : 9 ≤ w) where
  abbrev pub flagged : Codec (ℕ × Route)
  flagged = pair byte (route w enough)

  -- the test of a flag and the route behind it
  unfoldable pub promise_test : List ℕ → ℕ → Bool
  promise_test b o = cond (eqb (get_or b o 0) 0) (zeros b (o + 1) w) (eqb (get_or b o 0) 1 && route_formed w b (o + 1))

  abbrev pub PromiseFormed : List ℕ → ℕ → Type 0
  PromiseFormed b o = Bytes b × (promise_test b o ≡ true)

  pub promise_fits : (p : Option Route) → PromiseFits p → flagged.Fits (of_promise p)
  promise_fits none h = (omega arith, tt)
  promise_fits (some r) h = (omega arith, h)

  pub promise_there : (p : Option Route) → PromiseFits p → to_promise (of_promise p) ≡ p
  promise_there none h = refl
  promise_there (some r) h = refl

  pub promise_formed_lem : (b : List ℕ) (o : ℕ) → PromiseFormed b o → flagged.Formed b o
  unfolding promise_test
  promise_formed_lem b o h = (tt, (h.0, go (eqb (get_or b o 0) 0) h.1))
    where
      go : (t : Bool) → cond t (zeros b (o + 1) w) (eqb (get_or b o 0) 1 && route_formed w b (o + 1)) ≡ true → route_formed w b (o + 1) ≡ true
      go true e = (zeros_route w b (o + 1) enough e).0
      go false e = and_r (eqb (get_or b o 0) 1) (route_formed w b (o + 1)) e

  pub promise_here : (b : List ℕ) (o : ℕ) → PromiseFormed b o → of_promise (to_promise (flagged.value b o)) ≡ flagged.value b o
  unfolding promise_test
  promise_here b o h = go (eqb (get_or b o 0) 0) refl h.1
    where
      go : (t : Bool) → eqb (get_or b o 0) 0 ≡ t → cond t (zeros b (o + 1) w) (eqb (get_or b o 0) 1 && route_formed w b (o + 1)) ≡ true
          → of_promise (cond t none (some (route_at w b (o + 1)))) ≡ (get_or b o 0, route_at w b (o + 1))
      go true q e = λ i. (sym (eqb-true (get_or b o 0) 0 q) i, sym (zeros_route w b (o + 1) enough e).1 i)
      go false q e = λ i. (sym (eqb-true (get_or b o 0) 1 (and_l (eqb (get_or b o 0) 1) (route_formed w b (o + 1)) e)) i, route_at w b (o + 1))

  -- bytes that hold a promise are formed
  pub promise_made : (b : List ℕ) (o : ℕ) (p : Option Route) → PromiseFits p → Bytes b → flagged.Formed b o → flagged.value b o ≡ of_promise p → PromiseFormed b o
  unfolding promise_test
  promise_made b o none h z formed e =
      let first : get_or b o 0 ≡ 0 = ap (λ (x : ℕ × Route). x.0) e in
      (z, rw (first, none_zeros w b (o + 1) enough formed.1.1 (ap (λ (x : ℕ × Route). x.1) e)))
  promise_made b o (some r) h z formed e =
      let first : get_or b o 0 ≡ 1 = ap (λ (x : ℕ × Route). x.0) e in
      (z, rw (first, formed.1.1))

  abbrev pub promise_parts : Codec (Option Route)
  promise_parts = named flagged to_promise of_promise PromiseFits PromiseFormed promise_fits promise_there promise_formed_lem promise_here promise_made

  pub promise_bytes_lem : (p : Option Route) → promise_bytes w p ≡ promise_parts.bytes p
  unfolding promise_bytes
  promise_bytes_lem none = refl
  promise_bytes_lem (some r) = refl

  pub promise_value : (b : List ℕ) (o : ℕ) → promise_at w b o ≡ promise_parts.value b o
  unfolding promise_at
  promise_value b o = refl

  abbrev pub promise : Codec (Option Route)
  promise = restated promise_parts (1 + w) (promise_bytes w) (promise_at w) refl promise_bytes_lem promise_value

pub promise_read_fits : (w : ℕ) (b : List ℕ) (o : ℕ) → Bytes b → PromiseFits (promise_at w b o)
unfolding promise_at
promise_read_fits w b o z = go (eqb (get_or b o 0) 0)
  where
    go : (t : Bool) → PromiseFits (cond t none (some (route_at w b (o + 1))))
    go true = tt
    go false = route_read_fits w b (o + 1) z

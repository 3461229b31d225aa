-- A route written and read back, and read and written back: its codec, over its width.
-- The bytes that it takes for formed are those that `route_formed` accepts.
use mathlib.Core.Path.{◌≡◌, refl, sym, ap, ◌∙◌}
use mathlib.Core.Bool.{Bool, true, false, cond, ◌&&◌}
use mathlib.Core.List.{List, ◌∷◌}
use mathlib.Core.Logic.{⊎_elim}
use Prim.Native.Nat.{ℕ, zero, suc, ◌+◌, ◌-◌, ◌≤◌, ◌<◌}
use native.Mathlib.Nat.{add-zero}
use native.Mathlib.Omega.{arith}
use lib.Dec.{eqb}
use lib.ListN.{get_or, replicate, replicate-append-replicate}
use borrow.Author.Tests.{eqb-true, eq-eqb}
use Rattle.lists.proofs.Codec.{Codec, byte, blank, pair, named, restated}
use Rattle.lists.specs.Bytes.{Bytes}
use Rattle.lists.proofs.First.{every_all, every_yes}
use Rattle.lists.proofs.Test.{and_l, and_r, le_or_lt}
use Rattle.numbers.specs.BigEndian.{u16_at, u16_bytes}
use Rattle.numbers.proofs.Codecs.{u16, u16_below}
use Rattle.numbers.specs.Zeros.{zeros}
use Rattle.routes.specs.Form.{fields_at, fields_bytes, route_at, route_bytes, route_formed}
use Rattle.routes.proofs.Ordered.{fields_ext}
use Rattle.routes.specs.declared.Fields.{Fields}
use Rattle.routes.specs.declared.Route.{Route}
use Rattle.routes.specs.declared.Route.TheVariants.{None, Held}

-- a run of zeros: its bytes, and the numbers in it
pub zeros_all : (b : List ℕ) (o n : ℕ) → zeros b o n ≡ true → (k : ℕ) → k < n → get_or b (o + k) 0 ≡ 0
unfolding zeros
zeros_all b o n e k l = eqb-true _ _ (every_all _ n e k l)

pub all_zeros : (b : List ℕ) (o n : ℕ) → ((k : ℕ) → k < n → get_or b (o + k) 0 ≡ 0) → zeros b o n ≡ true
unfolding zeros
all_zeros b o n h = every_yes _ n (λ k l. eq-eqb _ _ (h k l))

pub zeros_number : (b : List ℕ) (o n : ℕ) → zeros b o n ≡ true → (j : ℕ) → j + 1 < n → u16_at b (o + j) ≡ 0
unfolding u16_at
zeros_number b o n e j l =
    let next : o + j + 1 ≡ o + (j + 1) = omega arith in
    rw (zeros_all b o n e j (omega arith), next, zeros_all b o n e (j + 1) l)

-- the fields: four numbers of two bytes
abbrev pub FieldsFit : Fields → Type 0
FieldsFit f = (f.preference < 65536) × (f.cost < 65536) × (f.origin < 65536) × (f.tags < 65536)

abbrev pub Four : Type 0
Four = ℕ × (ℕ × (ℕ × ℕ))

abbrev pub fields_parts : Codec Fields
fields_parts =
    named (pair u16 (pair u16 (pair u16 u16)))
    (λ (x : Four). record { preference = x.0; cost = x.1.0; origin = x.1.1.0; tags = x.1.1.1 })
    (λ (f : Fields). (f.preference, (f.cost, (f.origin, f.tags))))
    FieldsFit
    (pair u16 (pair u16 (pair u16 u16))).Formed
    (λ f h. (h.0, (h.1, (h.2, h.3))))
    (λ f h. refl)
    (λ b o h. h)
    (λ b o h. refl)
    (λ b o f h z w e. w)

pub fields_bytes_lem : (f : Fields) → fields_bytes f ≡ fields_parts.bytes f
unfolding fields_bytes u16_bytes
fields_bytes_lem f = refl

pub fields_value : (b : List ℕ) (o : ℕ) → fields_at b o ≡ fields_parts.value b o
unfolding fields_at
fields_value b o =
    let four : o + 4 ≡ o + 2 + 2 = omega arith in
    let six : o + 6 ≡ o + 2 + 2 + 2 = omega arith in
    rw (four, six)

abbrev pub fields : Codec Fields
fields = restated fields_parts 8 fields_bytes fields_at refl fields_bytes_lem fields_value

fields_formed : (b : List ℕ) (o : ℕ) → Bytes b → fields.Formed b o
fields_formed b o h = ((h o, h (o + 1)), ((h (o + 2), h (o + 2 + 1)), ((h (o + 2 + 2), h (o + 2 + 2 + 1)), (h (o + 2 + 2 + 2), h (o + 2 + 2 + 2 + 1)))))

-- a route: the present byte, zeros, and the fields
abbrev no_fields : Fields
no_fields = record { preference = 0; cost = 0; origin = 0; tags = 0 }

abbrev pub RouteFits : Route → Type 0
RouteFits None = Unit {0}
RouteFits (Held f) = FieldsFit f

-- the parts of a route, with a gap of g bytes
abbrev pub Parts : Type 0
Parts = ℕ × (Unit {0} × Fields)

abbrev pub to_route : Parts → Route
to_route x = cond (eqb x.0 0) None (Held x.1.1)

abbrev pub of_route : Route → Parts
of_route None = (0, (tt, no_fields))
of_route (Held f) = (1, (tt, f))

-- the bytes of zero fields are zeros
pub zero_bytes : (b : List ℕ) (o : ℕ) → u16_at b o ≡ 0 → (get_or b o 0 ≡ 0) × (get_or b (o + 1) 0 ≡ 0)
unfolding u16_at
zero_bytes b o e = (omega arith, omega arith)

field_zeros : (b : List ℕ) (o : ℕ) → fields_at b o ≡ no_fields → (k : ℕ) → k < 8 → get_or b (o + k) 0 ≡ 0
unfolding fields_at
field_zeros b o e = at
  where
    number : (j : ℕ) → u16_at b (o + j) ≡ 0 → (get_or b (o + j) 0 ≡ 0) × (get_or b (o + (j + 1)) 0 ≡ 0)
    number j q =
        let z = zero_bytes b (o + j) q in
        let next : o + j + 1 ≡ o + (j + 1) = omega arith in
        (z.0, rw next at z.1)

    first : u16_at b (o + 0) ≡ 0
    first = ap (u16_at b) (add-zero o) ∙ ap (λ (f : Fields). f.preference) e

    at : (k : ℕ) → k < 8 → get_or b (o + k) 0 ≡ 0
    at zero l = (number 0 first).0
    at (suc zero) l = (number 0 first).1
    at (suc (suc zero)) l = (number 2 (ap (λ (f : Fields). f.cost) e)).0
    at (suc (suc (suc zero))) l = (number 2 (ap (λ (f : Fields). f.cost) e)).1
    at (suc (suc (suc (suc zero)))) l = (number 4 (ap (λ (f : Fields). f.origin) e)).0
    at (suc (suc (suc (suc (suc zero))))) l = (number 4 (ap (λ (f : Fields). f.origin) e)).1
    at (suc (suc (suc (suc (suc (suc zero)))))) l = (number 6 (ap (λ (f : Fields). f.tags) e)).0
    at (suc (suc (suc (suc (suc (suc (suc zero))))))) l = (number 6 (ap (λ (f : Fields). f.tags) e)).1
    at (suc (suc (suc (suc (suc (suc (suc (suc k)))))))) l = absurd (omega arith)

module _ (w : ℕ) where
  abbrev pub parts : Codec Parts
  parts = pair byte (pair (blank (w - 9)) fields)

  pub route_fits : (r : Route) → RouteFits r → parts.Fits (of_route r)
  route_fits None h = (omega arith, (tt, (omega arith, omega arith, omega arith, omega arith)))
  route_fits (Held f) h = (omega arith, (tt, h))

  pub route_there : (r : Route) → RouteFits r → to_route (of_route r) ≡ r
  route_there None h = refl
  route_there (Held f) h = refl

  module _ (enough : 9 ≤ w) where
    abbrev pub RouteFormed : List ℕ → ℕ → Type 0
    RouteFormed b o = Bytes b × (route_formed w b o ≡ true)

    pub route_gap : (b : List ℕ) (o : ℕ) → route_formed w b o ≡ true → (k : ℕ) → k < w - 9 → get_or b (o + 1 + k) 0 ≡ 0
    unfolding route_formed
    route_gap b o = go (eqb (get_or b o 0) 0)
      where
        go : (t : Bool) → cond t (zeros b (o + 1) (w - 1)) (eqb (get_or b o 0) 1 && zeros b (o + 1) (w - 9)) ≡ true → (k : ℕ) → k < w - 9 → get_or b (o + 1 + k) 0 ≡ 0
        go true e k l = zeros_all b (o + 1) (w - 1) e k (omega arith)
        go false e k l = zeros_all b (o + 1) (w - 9) (and_r (eqb (get_or b o 0) 1) (zeros b (o + 1) (w - 9)) e) k l

    pub route_formed_lem : (b : List ℕ) (o : ℕ) → RouteFormed b o → parts.Formed b o
    route_formed_lem b o h = (tt, (route_gap b o h.1, fields_formed b (o + 1 + (w - 9)) h.0))

    -- the fields behind a zero present byte are zeros
    no_fields_lem : (b : List ℕ) (o : ℕ) → zeros b (o + 1) (w - 1) ≡ true → fields_at b (o + 1 + (w - 9)) ≡ no_fields
    unfolding fields_at
    no_fields_lem b o e = fields_ext _ _ (rw add-zero at (number 0 (omega arith))) (number 2 (omega arith)) (number 4 (omega arith)) (number 6 (omega arith))
      where
        number : (j : ℕ) → j + 1 < 8 → u16_at b (o + 1 + (w - 9) + j) ≡ 0
        number j l =
            let inside : o + 1 + (w - 9) + j ≡ o + 1 + (w - 9 + j) = omega arith in
            rw inside (zeros_number b (o + 1) (w - 1) e (w - 9 + j) (omega arith))

    pub route_here : (b : List ℕ) (o : ℕ) → RouteFormed b o → of_route (to_route (parts.value b o)) ≡ parts.value b o
    unfolding route_formed
    route_here b o h = go (eqb (get_or b o 0) 0) refl h.1
      where
        go : (t : Bool) → eqb (get_or b o 0) 0 ≡ t → cond t (zeros b (o + 1) (w - 1)) (eqb (get_or b o 0) 1 && zeros b (o + 1) (w - 9)) ≡ true
            → of_route (cond t None (Held (fields_at b (o + 1 + (w - 9))))) ≡ (get_or b o 0, (tt, fields_at b (o + 1 + (w - 9))))
        go true q e = λ i. (sym (eqb-true (get_or b o 0) 0 q) i, (tt, sym (no_fields_lem b o e) i))
        go false q e = λ i. (sym (eqb-true (get_or b o 0) 1 (and_l (eqb (get_or b o 0) 1) (zeros b (o + 1) (w - 9)) e)) i, (tt, fields_at b (o + 1 + (w - 9))))

    -- bytes that hold a route are formed: a zero present byte has the zero fields behind it
    pub route_made : (b : List ℕ) (o : ℕ) (r : Route) → RouteFits r → Bytes b → parts.Formed b o → parts.value b o ≡ of_route r → RouteFormed b o
    unfolding route_formed
    route_made b o None h z formed e = let first : get_or b o 0 ≡ 0 = ap (λ (x : Parts). x.0) e in (z, rw (first, all_zeros b (o + 1) (w - 1) behind))
      where
        behind : (k : ℕ) → k < w - 1 → get_or b (o + 1 + k) 0 ≡ 0
        behind k l = ⊎_elim
            (λ (m : w - 9 ≤ k).
            let inside : o + 1 + k ≡ o + 1 + (w - 9) + (k - (w - 9)) = omega arith in
            rw inside (field_zeros b (o + 1 + (w - 9)) (ap (λ (x : Parts). x.1.1) e) (k - (w - 9)) (omega arith)))
            (λ (m : k < w - 9). formed.1.0 k m)
            (le_or_lt (w - 9) k)
    route_made b o (Held f) h z formed e =
        let first : get_or b o 0 ≡ 1 = ap (λ (x : Parts). x.0) e in
        (z, rw (first, all_zeros b (o + 1) (w - 9) formed.1.0))

    abbrev pub route_parts : Codec Route
    route_parts = named parts to_route of_route RouteFits RouteFormed route_fits route_there route_formed_lem route_here route_made

    pub route_bytes_lem : (r : Route) → route_bytes w r ≡ route_parts.bytes r
    unfolding route_bytes fields_bytes u16_bytes
    route_bytes_lem None =
        let long : w ≡ suc (w - 9 + 8) = omega arith in
        ap (λ (n : ℕ). replicate n 0) long ∙ ap (◌∷◌ 0) (sym (replicate-append-replicate (w - 9) 8 0))
    route_bytes_lem (Held f) = refl

    pub route_value_lem : (b : List ℕ) (o : ℕ) → route_at w b o ≡ route_parts.value b o
    unfolding route_at
    route_value_lem b o = refl

    -- A route of w bytes: written and read back it is the same route, and read and written back the same bytes.
    abbrev pub route : Codec Route
    route = restated route_parts w (route_bytes w) (route_at w) (omega arith) route_bytes_lem route_value_lem

pub route_read_fits : (w : ℕ) (b : List ℕ) (o : ℕ) → Bytes b → RouteFits (route_at w b o)
unfolding route_at fields_at
route_read_fits w b o z = go (eqb (get_or b o 0) 0)
  where
    below : (k : ℕ) → u16_at b k < 65536
    below k = u16_below b k (z k, z (k + 1))

    go : (t : Bool) → RouteFits (cond t None (Held (fields_at b (o + 1 + (w - 9)))))
    go true = tt
    go false = (below _, below _, below _, below _)

-- w zeros are a route: none
pub zeros_route : (w : ℕ) (b : List ℕ) (o : ℕ) → 9 ≤ w → zeros b o w ≡ true → (route_formed w b o ≡ true) × (route_at w b o ≡ None)
unfolding route_formed route_at
zeros_route w b o enough e =
    let first : get_or b o 0 ≡ 0 = rw add-zero at (zeros_all b o w e 0 (omega arith)) in
    let rest : zeros b (o + 1) (w - 1) ≡ true =
    all_zeros b (o + 1) (w - 1) (λ k l. let next : o + 1 + k ≡ o + (1 + k) = omega arith in rw next (zeros_all b o w e (1 + k) (omega arith))) in
    (rw (first, rest), rw first)

-- and a formed route that says none is w zeros
pub none_zeros : (w : ℕ) (b : List ℕ) (o : ℕ) → 9 ≤ w → route_formed w b o ≡ true → route_at w b o ≡ None → zeros b o w ≡ true
unfolding route_formed route_at
none_zeros w b o enough = go (eqb (get_or b o 0) 0) refl
  where
    go : (t : Bool) → eqb (get_or b o 0) 0 ≡ t → cond t (zeros b (o + 1) (w - 1)) (eqb (get_or b o 0) 1 && zeros b (o + 1) (w - 9)) ≡ true
        → cond t None (Held (fields_at b (o + 1 + (w - 9)))) ≡ None → zeros b o w ≡ true
    go false q e n = absurd (let z : ◌≡◌ {A = ℕ} 0 1 = cc in omega arith)
    go true q e n = all_zeros b o w at
      where
        at : (k : ℕ) → k < w → get_or b (o + k) 0 ≡ 0
        at zero l = ap (λ (i : ℕ). get_or b i 0) (add-zero o) ∙ eqb-true (get_or b o 0) 0 q
        at (suc k) l = let next : o + suc k ≡ o + 1 + k = omega arith in rw next (zeros_all b (o + 1) (w - 1) e k (omega arith))

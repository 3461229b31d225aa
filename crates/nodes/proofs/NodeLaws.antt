-- The nodes of a network, as the code reads them.
--     kinds, promises, demands, node_forms     when a node is well formed
--     owning, promised, asked                  what it holds
--     noding, node_rooms                       the ways on of the loop over the nodes, and the room that it asks for
use Prim.Native.Nat.{ℕ, ◌+◌, ◌^◌, ◌≤◌, ◌<◌}
use native.Mathlib.Omega.{arith}
use mathlib.Core.Path.{◌≡◌, refl, sym, ap, ◌∙◌}
use mathlib.Core.Bool.{Bool, true, false, not}
use mathlib.Core.Logic.{◌⊎◌, inl, inr}
use mathlib.Core.List.{List}
use lib.Dec.{eqb}
use lib.ListN.{length, get_or}
use mir.Syntax.{w64}
use mir.Val.{Fits}
use borrow.Author.Tests.{eq-eqb, ne_eqb, not-true, not-false}
use Rattle.lists.specs.First.{first_bad}
use Rattle.lists.proofs.Walk.{Climb, climb_start, climb_next, climb_low, climb_ill, climb_end}
use Rattle.numbers.specs.BigEndian.{u16_at}
use Rattle.numbers.specs.Zeros.{zeros}
use Rattle.routes.specs.Form.{route_formed}
use Rattle.routes.specs.declared.Demand.TheVariants.{Nothing, Hold, HoldNone}
use Rattle.layout.specs.Form.{node_width}
use Rattle.layout.specs.Layout.{node_part, node_offset}
use Rattle.nodes.specs.Node.{kind_formed, promise_formed, demand_formed, node_formed, promising, demand_of, node_id, node_ok}
use Rattle.layout.proofs.Places.{node_first, node_after, node_within, node_fields}
use Rattle.layout.specs.declared.Form.{Form}

module _ (w : ℕ) (b : List ℕ) (o : ℕ) where
  pub kind_own : get_or b (o + 2) 0 ≡ 0 → true ≡ kind_formed w b o
  unfolding kind_formed
  kind_own k = rw k

  pub kind_promising : get_or b (o + 2) 0 ≡ 1 → (get_or b (o + 3 + w) 0 ≡ 0 → ⊥) → false ≡ kind_formed w b o
  unfolding kind_formed
  kind_promising k p = rw (k, ne_eqb _ _ p)

  pub kind_input : get_or b (o + 2) 0 ≡ 1 → get_or b (o + 3 + w) 0 ≡ 0 → eqb (get_or b (o + 4 + w + w) 0) 0 ≡ kind_formed w b o
  unfolding kind_formed
  kind_input k p = rw (k, p)

  pub kind_other : (get_or b (o + 2) 0 ≡ 0 → ⊥) → (get_or b (o + 2) 0 ≡ 1 → ⊥) → false ≡ kind_formed w b o
  unfolding kind_formed
  kind_other p q = rw (ne_eqb _ _ p, ne_eqb _ _ q)

  pub promise_none : (t : Bool) → get_or b (o + 3 + w) 0 ≡ 0 → t ≡ zeros b (o + 4 + w) w → t ≡ promise_formed w b o
  unfolding promise_formed
  promise_none t p e = rw p e

  pub promise_made : (t : Bool) → get_or b (o + 3 + w) 0 ≡ 1 → t ≡ route_formed w b (o + 4 + w) → t ≡ promise_formed w b o
  unfolding promise_formed
  promise_made t p e = rw p e

  pub promise_other : (get_or b (o + 3 + w) 0 ≡ 0 → ⊥) → (get_or b (o + 3 + w) 0 ≡ 1 → ⊥) → false ≡ promise_formed w b o
  unfolding promise_formed
  promise_other p q = rw (ne_eqb _ _ p, ne_eqb _ _ q)

  pub demand_hold : get_or b (o + 4 + w + w) 0 ≡ 1 → true ≡ demand_formed w b o
  unfolding demand_formed
  demand_hold p = rw p

  pub demand_plain : (t : Bool) → (get_or b (o + 4 + w + w) 0 ≡ 0) ⊎ (get_or b (o + 4 + w + w) 0 ≡ 2) → t ≡ zeros b (o + 5 + w + w) 4 → t ≡ demand_formed w b o
  unfolding demand_formed
  demand_plain t (inl p) e = rw p e
  demand_plain t (inr p) e = rw p e

  pub demand_other : (get_or b (o + 4 + w + w) 0 ≡ 1 → ⊥) → ((get_or b (o + 4 + w + w) 0 ≡ 0) ⊎ (get_or b (o + 4 + w + w) 0 ≡ 2) → ⊥) → false ≡ demand_formed w b o
  unfolding demand_formed
  demand_other p q = rw (ne_eqb _ _ p, ne_eqb _ _ (λ e. q (inl e)), ne_eqb _ _ (λ e. q (inr e)))

  module _ (k : Bool) (hk : k ≡ kind_formed w b o) where
    pub node_kind : not k ≡ true → false ≡ node_formed w b o
    unfolding node_formed
    node_kind y = rw (← hk, not-true k y)

    module _ (yk : not k ≡ false) (r : Bool) (hr : r ≡ route_formed w b (o + 3)) where
      pub node_route : not r ≡ true → false ≡ node_formed w b o
      unfolding node_formed
      node_route y = rw (← hk, not-false k yk, ← hr, not-true r y)

      module _ (yr : not r ≡ false) (p : Bool) (hp : p ≡ promise_formed w b o) where
        pub node_promise : not p ≡ true → false ≡ node_formed w b o
        unfolding node_formed
        node_promise y = rw (← hk, not-false k yk, ← hr, not-false r yr, ← hp, not-true p y)

        pub node_demand : (d : Bool) → not p ≡ false → d ≡ demand_formed w b o → d ≡ node_formed w b o
        unfolding node_formed
        node_demand d y e = rw (← hk, not-false k yk, ← hr, not-false r yr, ← hp, not-false p y) e

  pub own_yes : get_or b (o + 2) 0 ≡ 0 → true ≡ eqb (get_or b (o + 2) 0) 0
  own_yes p = sym (eq-eqb _ _ p)

  pub own_no : (get_or b (o + 2) 0 ≡ 0 → ⊥) → false ≡ eqb (get_or b (o + 2) 0) 0
  own_no p = sym (ne_eqb _ _ p)

  pub promising_no : get_or b (o + 3 + w) 0 ≡ 0 → false ≡ promising w b o
  unfolding promising
  promising_no p = rw p

  pub promising_yes : (get_or b (o + 3 + w) 0 ≡ 0 → ⊥) → true ≡ promising w b o
  unfolding promising
  promising_yes p = rw (ne_eqb _ _ p)

  pub asks_nothing : get_or b (o + 4 + w + w) 0 ≡ 0 → Nothing ≡ demand_of w b o
  unfolding demand_of
  asks_nothing p = rw p

  pub asks_hold : (c t : ℕ) → get_or b (o + 4 + w + w) 0 ≡ 1 → c ≡ u16_at b (o + 5 + w + w) → t ≡ u16_at b (o + 7 + w + w) → Hold c t ≡ demand_of w b o
  unfolding demand_of
  asks_hold c t p q r = rw (p, q, r)

  pub asks_none_lem : (get_or b (o + 4 + w + w) 0 ≡ 0 → ⊥) → (get_or b (o + 4 + w + w) 0 ≡ 1 → ⊥) → HoldNone ≡ demand_of w b o
  unfolding demand_of
  asks_none_lem p q = rw (ne_eqb _ _ p, ne_eqb _ _ q)

pub ruleset kinds = (kind_own, kind_promising, kind_input, kind_other)

pub ruleset promises = (promise_none, promise_made, promise_other)

pub ruleset demands = (demand_hold, demand_plain, demand_other)

pub ruleset owning = (own_yes, own_no)

pub ruleset promised = (promising_no, promising_yes)

pub ruleset asked = (asks_nothing, asks_hold, asks_none_lem)

pub ruleset node_forms = (node_kind, node_route, node_promise, node_demand)

-- what the loop over the nodes knows
abbrev pub Noding : Form → List ℕ → ℕ → ℕ → ℕ → ℕ → Type 0
Noding f b n i o low = Climb (node_id f b) (node_offset f b) (node_ok f b) n i o low

module _ (f : Form) (b : List ℕ) (n : ℕ) where
  pub node_start : (o : ℕ) → o ≡ node_part b → Noding f b n 0 o 0
  node_start o e = climb_start _ _ _ n o (e ∙ sym (node_first f b))

  module _ (i o low : ℕ) (c : Noding f b n i o low) where
    pub node_end : n ≤ i → n ≡ first_bad (node_ok f b) n
    node_end l = climb_end _ _ _ n i o low c l

    module _ (l : i < n) where
      pub node_low : (id : ℕ) → id ≡ u16_at b o → id < low → i ≡ first_bad (node_ok f b) n
      unfolding node_ok node_id
      node_low id e m = climb_low _ _ _ (node_formed f.route b) (λ k. refl) n i o low c l id (e ∙ ap (u16_at b) c.walk.here) m

      module _ (t : Bool) (h : t ≡ node_formed f.route b o) where
        pub node_ill : not t ≡ true → i ≡ first_bad (node_ok f b) n
        unfolding node_ok
        node_ill y = climb_ill _ _ _ (node_formed f.route b) (λ k. refl) n i o low c l t h y

        pub node_next : (id size : ℕ) → id ≡ u16_at b o → low ≤ id → not t ≡ false → size ≡ node_width f → Noding f b n (i + 1) (o + size) (id + 1)
        unfolding node_ok node_id
        node_next id size e m y w =
            let here = c.walk.here in
            climb_next _ _ _ (node_formed f.route b) (λ k. refl) n i o low c l t h id (o + size)
            (e ∙ ap (u16_at b) here) m y (omega (arith, node_after f b i))

      -- the node at hand lies within the n nodes
      module _ (r : node_offset f b n ≤ length b) where
        node_whole : o + node_width f ≤ length b
        node_whole = let here = c.walk.here in omega (arith, node_within f b i n l)

        pub node_here : o + (9 + f.route + f.route) ≤ length b
        node_here = omega (arith, node_whole, node_fields f)

        pub node_id_room : o + 2 ≤ length b
        node_id_room = omega (arith, node_here)

        pub node_fits : (size : ℕ) → size ≡ node_width f → length b < 2 ^ 64 → Fits w64 (o + size)
        node_fits size w g = omega (arith, node_whole)

pub ruleset noding = (node_start, node_end, node_low, node_ill, node_next)

pub ruleset node_rooms = (node_here, node_id_room, node_fits)

-- The order's decisions, one a law, as the code takes them.
use mathlib.Core.Path.{◌≡◌, refl, sym}
use mathlib.Core.Bool.{Bool, true, false, cond}
use Prim.Native.Nat.{ℕ}
use native.Mathlib.Omega.{arith}
use lib.Dec.{ltb, eqb}
use borrow.Author.Tests.{eq-eqb, ne_eqb, eqb-true, le-ltb}
use Rattle.lists.specs.Best.{best}
use Rattle.routes.specs.Order.{beats}
use Rattle.routes.specs.declared.Fields.{Fields}
use Rattle.routes.specs.declared.Route.{Route}
use Rattle.routes.specs.declared.Route.TheVariants.{None, Held}

-- the last decision stands alone: two equal numbers are not one below the other
tags_alone : (a b : ℕ) → ltb a b ≡ cond (eqb a b) false (ltb a b)
tags_alone a b = go (eqb a b) refl
  where
    go : (t : Bool) → eqb a b ≡ t → ltb a b ≡ cond t false (ltb a b)
    go true q = let e : a ≡ b = eqb-true a b q in le-ltb a b (omega arith)
    go false q = refl

-- the five decisions
module _ (x : Fields) (r : Route) where
  pub by_presence : r ≡ None → true ≡ beats (Held x) r
  unfolding beats
  by_presence q = rw q

  module _ (y : Fields) (q : r ≡ Held y) where
    pub by_preference : (x.preference ≡ y.preference → ⊥) → ltb y.preference x.preference ≡ beats (Held x) r
    unfolding beats
    by_preference n = rw (q, ne_eqb y.preference x.preference (λ e. n (sym e)))

    module _ (e₁ : x.preference ≡ y.preference) where
      pub by_cost : (x.cost ≡ y.cost → ⊥) → ltb x.cost y.cost ≡ beats (Held x) r
      unfolding beats
      by_cost n = rw (q, eq-eqb y.preference x.preference (sym e₁), ne_eqb x.cost y.cost n)

      module _ (e₂ : x.cost ≡ y.cost) where
        pub by_origin : (x.origin ≡ y.origin → ⊥) → ltb x.origin y.origin ≡ beats (Held x) r
        unfolding beats
        by_origin n = rw (q, eq-eqb y.preference x.preference (sym e₁), eq-eqb x.cost y.cost e₂, ne_eqb x.origin y.origin n)

        module _ (e₃ : x.origin ≡ y.origin) where
          pub by_tags : ltb x.tags y.tags ≡ beats (Held x) r
          unfolding beats
          by_tags =
              rw (q, eq-eqb y.preference x.preference (sym e₁), eq-eqb x.cost y.cost e₂, eq-eqb x.origin y.origin e₃)
              (tags_alone x.tags y.tags)

pub ruleset deciding = (by_presence, by_preference, by_cost, by_origin, by_tags)

-- a route that is not there beats none
pub none_beats : (r : Route) → beats None r ≡ false
unfolding beats
none_beats None = refl
none_beats (Held x) = refl

-- the best of two: the first where there is no second, and else by what `beats` says of the second
module _ (a b : Route) where
  pub better_alone : b ≡ None → a ≡ best beats a b
  better_alone q = rw (q, none_beats a)

  module _ (y : Fields) (t : Bool) (q : b ≡ Held y) (w : t ≡ beats (Held y) a) where
    pub better_second : t ≡ true → Held y ≡ best beats a b
    better_second h = rw (q, ← w, h)

    pub better_first : t ≡ false → a ≡ best beats a b
    better_first h = rw (q, ← w, h)

pub ruleset choosing = (better_alone, better_second, better_first)

-- The ways of a route over a wire, one a law, as the code takes them.
use mathlib.Core.Path.{◌≡◌}
use mathlib.Core.Bool.{cond}
use Prim.Native.Nat.{ℕ, ◌+◌, ◌-◌, ◌≤◌, ◌<◌}
use native.Mathlib.Omega.{arith}
use lib.Bits.{bit_and, bit_or}
use borrow.Author.Tests.{eq-eqb, ne_eqb, lt-ltb, le-ltb}
use Rattle.routes.specs.Carry.{carried, lacks, barred, dear, new_tags, crossed}
use Rattle.routes.specs.declared.Fields.{Fields}
use Rattle.routes.specs.declared.Policy.{Policy}
use Rattle.routes.specs.declared.Route.{Route}
use Rattle.routes.specs.declared.Route.TheVariants.{None, Held}

pub carry_nothing : (h : ℕ) (p : Policy) (r : Route) → r ≡ None → None ≡ carried h p r
unfolding carried
carry_nothing h p r e = rw e

module _ (h : ℕ) (p : Policy) (r : Route) (f : Fields) (e : r ≡ Held f) where
  pub carry_need : (bit_and f.tags p.need ≡ p.need → ⊥) → None ≡ carried h p r
  unfolding carried lacks
  carry_need n = rw (e, ne_eqb _ _ n)

  module _ (has : bit_and f.tags p.need ≡ p.need) where
    pub carry_bar : (bit_and f.tags p.bar ≡ 0 → ⊥) → None ≡ carried h p r
    unfolding carried lacks barred
    carry_bar n = rw (e, eq-eqb _ _ has, ne_eqb _ _ n)

    module _ (free : bit_and f.tags p.bar ≡ 0) where
      dear_none : h < f.cost + p.added → None ≡ carried h p r
      unfolding carried lacks barred dear
      dear_none o = rw (e, eq-eqb _ _ has, eq-eqb _ _ free, lt-ltb _ _ o)

      pub carry_dear : h < f.cost → None ≡ carried h p r
      carry_dear n = dear_none (omega arith)

      pub carry_over : f.cost ≤ h → h - f.cost < p.added → None ≡ carried h p r
      carry_over l n = dear_none (omega arith)

      pub carry_done : (v : ℕ) → f.cost ≤ h → p.added ≤ h - f.cost → v ≡ cond p.flag p.preference f.preference
          → Held (record { preference = v; cost = f.cost + p.added; origin = f.origin; tags = bit_or (bit_and f.tags (65535 - p.clear)) p.set }) ≡ carried h p r
      unfolding carried lacks barred dear crossed new_tags
      carry_done v l n c =
          let o : f.cost + p.added ≤ h = omega arith in
          rw (e, eq-eqb _ _ has, eq-eqb _ _ free, le-ltb h (f.cost + p.added) o, c)

pub ruleset carrying = (carry_nothing, carry_need, carry_bar, carry_dear, carry_over, carry_done)

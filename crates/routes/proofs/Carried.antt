-- What is known of the route behind a wire.
use mathlib.Core.Path.{◌≡◌, refl, sym, ap}
use mathlib.Core.Bool.{Bool, true, false, cond}
use Prim.Native.Nat.{ℕ, ◌+◌, ◌≤◌, ◌<◌}
use native.Mathlib.Omega.{arith}
use lib.Dec.{ltb}
use borrow.Author.Tests.{ltb-false}
use Rattle.routes.specs.Carry.{carried, lacks, barred, dear, crossed}
use Rattle.routes.specs.declared.Fields.{Fields}
use Rattle.routes.specs.declared.Policy.{Policy}
use Rattle.routes.specs.declared.Route.TheVariants.{None, Held}

-- carrying no route gives no route
pub carry_none : (top : ℕ) (p : Policy) → carried top p None ≡ None
unfolding carried
carry_none top p = refl

-- what gets through: the route lacked no tag of need, held none of bar, and its cost is at most the highest
pub record Through (top : ℕ) (p : Policy) (f g : Fields) : Type 0 where
  pub needed : lacks p f ≡ false
  pub free : barred p f ≡ false
  pub cheap : f.cost + p.added ≤ top
  pub is : g ≡ crossed p f

held_inj : {f g : Fields} → Held f ≡ Held g → f ≡ g
held_inj e = cc

pub none_held : {f : Fields} → None ≡ Held f → ⊥
none_held e = let z : ◌≡◌ {A = ℕ} 0 1 = cc in omega arith

pub carry_through : (top : ℕ) (p : Policy) (f g : Fields) → carried top p (Held f) ≡ Held g → Through top p f g
unfolding carried dear
carry_through top p f g = go (lacks p f) refl (barred p f) refl (ltb top (f.cost + p.added)) refl
  where
    go : (l : Bool) → lacks p f ≡ l → (b : Bool) → barred p f ≡ b → (d : Bool) → ltb top (f.cost + p.added) ≡ d
        → cond l None (cond b None (cond d None (Held (crossed p f)))) ≡ Held g → Through top p f g
    go true ql b qb d qd e = absurd (none_held e)
    go false ql true qb d qd e = absurd (none_held e)
    go false ql false qb true qd e = absurd (none_held e)
    go false ql false qb false qd e = record { needed = ql; free = qb; cheap = ltb-false _ _ qd; is = sym (held_inj e) }

-- the cost behind a wire
crossed_cost : (top : ℕ) (p : Policy) (f g : Fields) → carried top p (Held f) ≡ Held g → g.cost ≡ f.cost + p.added
unfolding crossed
crossed_cost top p f g e = ap (λ (x : Fields). x.cost) (carry_through top p f g e).is

-- no cost behind a wire is over the highest
pub carry_cheap : (top : ℕ) (p : Policy) (f g : Fields) → carried top p (Held f) ≡ Held g → g.cost ≤ top
carry_cheap top p f g e =
    let t = carry_through top p f g e in
    let q : g.cost ≡ f.cost + p.added = crossed_cost top p f g e in
    omega (arith, t.cheap)

-- where the policy adds something, the cost behind a wire is over the one before it
pub carry_dearer : (top : ℕ) (p : Policy) (f g : Fields) → 1 ≤ p.added → carried top p (Held f) ≡ Held g → f.cost < g.cost
carry_dearer top p f g adds e =
    let q : g.cost ≡ f.cost + p.added = crossed_cost top p f g e in
    omega (arith, adds)

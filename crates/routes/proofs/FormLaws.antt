-- Routes and policies as bytes, as the code reads them.
--     forming, reading, fields_read          routes
--     preferences, policies, policy_read     policies
use mathlib.Core.Path.{◌≡◌, refl}
use mathlib.Core.Bool.{Bool, true, false}
use mathlib.Core.List.{List}
use Prim.Native.Nat.{ℕ, ◌+◌, ◌-◌}
use lib.Dec.{eqb, leb}
use lib.ListN.{get_or}
use borrow.Author.Tests.{ne_eqb}
use Rattle.numbers.specs.BigEndian.{u16_at}
use Rattle.numbers.specs.Zeros.{zeros}
use Rattle.routes.specs.Form.{fields_at, route_at, route_formed, policy_at, preference_formed, policy_formed}
use Rattle.routes.specs.declared.Fields.{Fields}
use Rattle.routes.specs.declared.Route.TheVariants.{None, Held}

-- routes
module _ (w : ℕ) (b : List ℕ) (o : ℕ) where
  pub formed_none : (t : Bool) → get_or b o 0 ≡ 0 → t ≡ zeros b (o + 1) (w - 1) → t ≡ route_formed w b o
  unfolding route_formed
  formed_none t p e = rw p e

  pub formed_held : (t : Bool) → get_or b o 0 ≡ 1 → t ≡ zeros b (o + 1) (w - 9) → t ≡ route_formed w b o
  unfolding route_formed
  formed_held t p e = rw p e

  pub formed_other : (get_or b o 0 ≡ 0 → ⊥) → (get_or b o 0 ≡ 1 → ⊥) → false ≡ route_formed w b o
  unfolding route_formed
  formed_other p q = rw (ne_eqb _ _ p, ne_eqb _ _ q)

  pub route_none : get_or b o 0 ≡ 0 → None ≡ route_at w b o
  unfolding route_at
  route_none p = rw p

  pub route_held : (f : Fields) → (get_or b o 0 ≡ 0 → ⊥) → f ≡ fields_at b (o + 1 + (w - 9)) → Held f ≡ route_at w b o
  unfolding route_at
  route_held f p e = rw (ne_eqb _ _ p, e)

pub ruleset forming = (formed_none, formed_held, formed_other)

pub ruleset reading = (route_none, route_held)

pub fields_read : (b : List ℕ) (o preference cost origin tags : ℕ)
    → preference ≡ u16_at b o → cost ≡ u16_at b (o + 2) → origin ≡ u16_at b (o + 4) → tags ≡ u16_at b (o + 6)
    → record { preference = preference; cost = cost; origin = origin; tags = tags } ≡ fields_at b o
unfolding fields_at
fields_read b o _ _ _ _ e₁ e₂ e₃ e₄ = rw (e₁, e₂, e₃, e₄)

-- policies
module _ (b : List ℕ) (o : ℕ) where
  pub preference_unset : (v : ℕ) → get_or b o 0 ≡ 0 → v ≡ u16_at b (o + 1) → eqb v 0 ≡ preference_formed b o
  unfolding preference_formed
  preference_unset v p e = rw (p, e)

  pub preference_set : get_or b o 0 ≡ 1 → true ≡ preference_formed b o
  unfolding preference_formed
  preference_set p = rw p

  pub preference_other : (get_or b o 0 ≡ 0 → ⊥) → (get_or b o 0 ≡ 1 → ⊥) → false ≡ preference_formed b o
  unfolding preference_formed
  preference_other p q = rw (ne_eqb _ _ p, ne_eqb _ _ q)

  pub policy_ill : (t : Bool) → t ≡ preference_formed b (o + 8) → t ≡ false → t ≡ policy_formed b o
  unfolding policy_formed
  policy_ill t e q = rw (← e, q) refl

  pub policy_adds : (t : Bool) → t ≡ preference_formed b (o + 8) → t ≡ true → (v : ℕ) → v ≡ u16_at b (o + 11) → leb 1 v ≡ policy_formed b o
  unfolding policy_formed
  policy_adds t e q v h = rw (← e, q, h) refl

  pub policy_read : (need bar clear set preference added : ℕ)
      → need ≡ u16_at b o → bar ≡ u16_at b (o + 2) → clear ≡ u16_at b (o + 4) → set ≡ u16_at b (o + 6) → preference ≡ u16_at b (o + 9) → added ≡ u16_at b (o + 11)
      → record { need = need; bar = bar; clear = clear; set = set; flag = eqb (get_or b (o + 8) 0) 1; preference = preference; added = added } ≡ policy_at b o
  unfolding policy_at
  policy_read _ _ _ _ _ _ e₁ e₂ e₃ e₄ e₅ e₆ = rw (e₁, e₂, e₃, e₄, e₅, e₆)

pub ruleset preferences = (preference_unset, preference_set, preference_other)

pub ruleset policies = (policy_ill, policy_adds)

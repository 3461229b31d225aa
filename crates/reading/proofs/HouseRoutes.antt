-- The house's routes keep the laws of choice, and cost more behind a wire that adds, whatever the highest cost.
use mathlib.Core.Path.{◌≡◌, refl}
use Prim.Native.Nat.{ℕ, ◌≤◌, ◌<◌}
use Rattle.routes.specs.Carry.{carried}
use Rattle.routes.specs.declared.Policy.{Policy}
use Rattle.routes.specs.declared.Route.{Route}
use Rattle.routes.specs.declared.Route.TheVariants.{None, Held}
use Rattle.routes.proofs.Ordered.{better_selective, better_commutative, better_associative, better_none_right}
use Rattle.routes.proofs.Carried.{carry_none, carry_dearer}
use Rattle.networks.specs.Algebra.{Choice, Costs}
use Rattle.reading.specs.House.{house, cost_of}

pub house_choice : (top : ℕ) → Choice (house top)
house_choice top = record {
  selective = better_selective;
  commutative = better_commutative;
  associative = better_associative;
  none_worst = better_none_right;
  carry_none = carry_none top;
}

pub carried_dearer : (top : ℕ) (p : Policy) (r : Route) → 1 ≤ p.added → (carried top p r ≡ None → ⊥) → cost_of r < cost_of (carried top p r)
carried_dearer top p None adds present = absurd (present (carry_none top p))
carried_dearer top p (Held f) adds present = go (carried top p (Held f)) refl present
  where
    go : (r : Route) → carried top p (Held f) ≡ r → (r ≡ None → ⊥) → f.cost < cost_of r
    go None q here = absurd (here refl)
    go (Held g) q here = carry_dearer top p f g adds q

-- A lawful policy adds at least 1, so that those of an adding network are.
abbrev pub house_costs : (top : ℕ) → Costs (house top)
house_costs top = record {
  cost = cost_of;
  Lawful = λ (p : Policy). 1 ≤ p.added;
  dearer = carried_dearer top;
}

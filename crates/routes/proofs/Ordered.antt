-- The order of routes: the five decisions tell any two routes apart, so no two beat each other, beating is handed on, and two routes
-- neither of which beats the other are the same. So the best of two is selective, commutative and associative, and no route is its identity.
use mathlib.Core.Path.{◌≡◌, refl, ap, ◌∙◌}
use mathlib.Core.Bool.{Bool, true, ◌&&◌, false≢true}
use mathlib.Core.Logic.{◌⊎◌}
use Prim.Native.Nat.{ℕ}
use lib.Dec.{eqb}
use borrow.Author.Tests.{eqb-true}
use Rattle.lists.specs.Best.{best}
use Rattle.lists.proofs.Best.{Order, undecided_self, decided_order, best_selective, best_commutative, best_associative}
use Rattle.lists.proofs.Test.{and_l, and_r}
use Rattle.routes.specs.Order.{decisions, beats, same}
use Rattle.routes.specs.declared.Fields.{Fields}
use Rattle.routes.specs.declared.Route.{Route}
use Rattle.routes.specs.declared.Route.TheVariants.{None, Held}
use Rattle.routes.proofs.OrderLaws.{none_beats}

-- equal in all four means the same fields
pub fields_ext : (x y : Fields) → x.preference ≡ y.preference → x.cost ≡ y.cost → x.origin ≡ y.origin → x.tags ≡ y.tags → x ≡ y
fields_ext x y p c o t = λ i. record { preference = p i; cost = c i; origin = o i; tags = t i }

-- the test of equality decides it
pub same_refl : (a : Route) → same a a ≡ true
unfolding same
same_refl a = undecided_self decisions a

untold : (a b : ℕ) (rest : Bool) → eqb a b && rest ≡ true → (a ≡ b) × (rest ≡ true)
untold a b rest e = (eqb-true a b (and_l (eqb a b) rest e), and_r (eqb a b) rest e)

pub same_true : (a b : Route) → same a b ≡ true → a ≡ b
unfolding same
same_true None None e = refl
same_true None (Held y) e = absurd (false≢true e)
same_true (Held x) None e = absurd (false≢true e)
same_true (Held x) (Held y) e =
    let p = untold x.preference y.preference _ e in
    let c = untold x.cost y.cost _ p.1 in
    let o = untold x.origin y.origin _ c.1 in
    let t = untold x.tags y.tags true o.1 in
    ap Held (fields_ext x y p.0 c.0 o.0 t.0)

pub route_order : Order beats
unfolding beats same
route_order = decided_order decisions same_true

pub better_selective : (a b : Route) → (best beats a b ≡ a) ⊎ (best beats a b ≡ b)
better_selective = best_selective beats

pub better_commutative : (a b : Route) → best beats a b ≡ best beats b a
better_commutative = best_commutative beats route_order

pub better_associative : (a b c : Route) → best beats (best beats a b) c ≡ best beats a (best beats b c)
better_associative = best_associative beats route_order

-- no route is the identity
pub better_none_right : (a : Route) → best beats a None ≡ a
better_none_right a = rw (none_beats a)

pub better_none_left : (a : Route) → best beats None a ≡ a
better_none_left a = better_commutative None a ∙ better_none_right a

-- The order that the laws of choice make of `best`, and the best of several.
--     at_least_..      a route is at least as good as itself, and so on from route to route
--     best_of_..        the best of several is at least as good as each, and is one of them
use mathlib.Core.Path.{◌≡◌, refl, sym, ap, ◌∙◌}
use mathlib.Core.Bool.{true}
use mathlib.Core.List.{List, [], ◌∷◌}
use mathlib.Core.Logic.{◌⊎◌, inl, inr, ⊎_elim}
use Rattle.lists.proofs.Test.{or_i_l, or_i_r}
use Rattle.lists.specs.All.{All, any}
use Rattle.networks.specs.Algebra.{Algebra, Choice, AtLeast}
use Rattle.networks.specs.Solution.{best_of}

module _ (𝓐 : Algebra) (choice : Choice 𝓐) where
  open 𝓐 use {Route, no_route, best, same, same_self}

  pub at_least_self : (x : Route) → AtLeast 𝓐 x x
  at_least_self x = ⊎_elim (λ (e : best x x ≡ x). e) (λ (e : best x x ≡ x). e) (choice.selective x x)

  pub at_least_on : (x y z : Route) → AtLeast 𝓐 x y → AtLeast 𝓐 y z → AtLeast 𝓐 x z
  at_least_on x y z e f = ap (λ (u : Route). best u z) (sym e) ∙ choice.associative x y z ∙ ap (best x) f ∙ e

  best_first : (x y : Route) → AtLeast 𝓐 (best x y) x
  best_first x y = choice.commutative (best x y) x ∙ sym (choice.associative x x y) ∙ ap (λ (u : Route). best u y) (at_least_self x)

  best_second : (x y : Route) → AtLeast 𝓐 (best x y) y
  best_second x y = choice.associative x y y ∙ ap (best x) (at_least_self y)

  pub best_of_first : (r : Route) (ss : List Route) → AtLeast 𝓐 (best_of 𝓐 r ss) r
  best_of_first r [] = at_least_self r
  best_of_first r (s ∷ ss) = at_least_on (best_of 𝓐 (best r s) ss) (best r s) r (best_of_first (best r s) ss) (best_first r s)

  pub best_of_each : (r : Route) (ss : List Route) → All (λ (s : Route). AtLeast 𝓐 (best_of 𝓐 r ss) s) ss
  best_of_each r [] = tt
  best_of_each r (s ∷ ss) = (
    at_least_on (best_of 𝓐 (best r s) ss) (best r s) s (best_of_first (best r s) ss) (best_second r s),
    best_of_each
        (best r s) ss,
  )

  pub best_of_one : (r : Route) (ss : List Route) → (best_of 𝓐 r ss ≡ r) ⊎ (any (same (best_of 𝓐 r ss)) ss ≡ true)
  best_of_one r [] = inl refl
  best_of_one r (s ∷ ss) = ⊎_elim (λ (e : best_of 𝓐 (best r s) ss ≡ best r s). ⊎_elim (λ (f : best r s ≡ r). inl (e ∙ f))
      (λ (f : best r s ≡ s). inr (or_i_l (same (best_of 𝓐 (best r s) ss) s) (any (same (best_of 𝓐 (best r s) ss)) ss) (found (e ∙ f))))
      (choice.selective r s))
      (λ (t : any (same (best_of 𝓐 (best r s) ss)) ss ≡ true). inr
      (or_i_r (same (best_of 𝓐 (best r s) ss) s) (any (same (best_of 𝓐 (best r s) ss)) ss) t)) (best_of_one (best r s) ss)
    where
      found : best_of 𝓐 (best r s) ss ≡ s → same (best_of 𝓐 (best r s) ss) s ≡ true
      found e = rw e (same_self s)

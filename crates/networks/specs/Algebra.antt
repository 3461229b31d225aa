-- Routing algebras (document 000, section III): everything that judging and cutting ask of a kind of route.
--     Algebra     routes, policies and demands; of them only that `same` tells whether two routes are equal
--     Choice      the laws that make the best of several routes one route; the theorems that need them say so
--     AtLeast     the order that these laws make of `best`
--     Costs       what routes cost, where a lawful wire makes them dearer: a trail then ends
--     Telling     whether two policies are equal, which joining asks
use Rattle.std.specs.Prelude.{◌≡◌, Bool, true, ◌⊎◌, ℕ, ◌<◌}

pub record Algebra : Type 1 where
  pub Route : Type 0
  pub Policy : Type 0
  pub Demand : Type 0
  -- no route, a value like any other
  pub no_route : Route
  -- whether two routes are equal
  pub same : Route → Route → Bool
  -- the better of two routes, the paper's ⊕
  pub best : Route → Route → Route
  -- the route that a wire with this policy gives for a route, the paper's trans
  pub carry : Policy → Route → Route
  -- whether a route meets a demand, the paper's safety property
  pub meets : Demand → Route → Bool
  pub same_true : (x y : Route) → same x y ≡ true → x ≡ y
  pub same_self : (x : Route) → same x x ≡ true

-- the better of two routes is one of the two, whichever stands first and however three are taken, and every route beats no route
pub record Choice (𝓐 : Algebra) : Type 0 where
  pub selective : (x y : 𝓐.Route) → (𝓐.best x y ≡ x) ⊎ (𝓐.best x y ≡ y)
  pub commutative : (x y : 𝓐.Route) → 𝓐.best x y ≡ 𝓐.best y x
  pub associative : (x y z : 𝓐.Route) → 𝓐.best (𝓐.best x y) z ≡ 𝓐.best x (𝓐.best y z)
  pub none_worst : (x : 𝓐.Route) → 𝓐.best x 𝓐.no_route ≡ x
  -- a wire makes nothing out of no route
  pub carry_none : (p : 𝓐.Policy) → 𝓐.carry p 𝓐.no_route ≡ 𝓐.no_route

-- x is at least as good as y
abbrev pub AtLeast : (𝓐 : Algebra) → 𝓐.Route → 𝓐.Route → Type 0
AtLeast 𝓐 x y = 𝓐.best x y ≡ x

-- What gets over a lawful wire costs more than before.
pub record Costs (𝓐 : Algebra) : Type 1 where
  pub cost : 𝓐.Route → ℕ
  pub Lawful : 𝓐.Policy → Type 0
  pub dearer : (p : 𝓐.Policy) (r : 𝓐.Route) → Lawful p → (𝓐.carry p r ≡ 𝓐.no_route → ⊥) → cost r < cost (𝓐.carry p r)

-- A test that tells whether two policies are equal.
pub record Telling (𝓐 : Algebra) : Type 0 where
  pub alike : 𝓐.Policy → 𝓐.Policy → Bool
  pub alike_true : (p q : 𝓐.Policy) → alike p q ≡ true → p ≡ q
  pub alike_self : (p : 𝓐.Policy) → alike p p ≡ true

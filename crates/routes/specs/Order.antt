-- Which of two routes is better (document 01, 'Better'): five decisions, one under the other.
use Rattle.std.specs.Prelude.{Bool, List, [], ◌∷◌, ℕ}
use Rattle.lists.specs.Best.{Decision, lower, higher, decided, undecided}
use Rattle.routes.specs.declared.Route.{Route}
use Rattle.routes.specs.declared.Route.TheVariants.{None, Held}

-- The numbers of a route, as a record has them; where there is no route, all five are 0.
abbrev present : Route → ℕ
present None = 0
present (Held f) = 1

abbrev preference : Route → ℕ
preference None = 0
preference (Held f) = f.preference

abbrev cost : Route → ℕ
cost None = 0
cost (Held f) = f.cost

abbrev origin : Route → ℕ
origin None = 0
origin (Held f) = f.origin

abbrev tags : Route → ℕ
tags None = 0
tags (Held f) = f.tags

-- a route beats no route; then the higher preference, the lower cost, the lower origin, the tags lower as a number
abbrev pub decisions : List (Decision Route)
decisions =
    higher present ∷
    higher preference ∷
    lower cost ∷
    lower origin ∷
    lower tags ∷
    []

-- The first decision that tells two routes apart decides. The best of two is `best beats`.
unfoldable pub beats : Route → Route → Bool
beats = decided decisions

-- Two routes that no decision tells apart are the same.
unfoldable pub same : Route → Route → Bool
same = undecided decisions

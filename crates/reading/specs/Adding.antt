-- Networks in which every policy adds at least 1 (document 02, K1). Every sound record says one.
use Rattle.std.specs.Prelude.{◌≤◌}
use Rattle.lists.specs.All.{All}
use Rattle.routes.specs.declared.Policy.{Policy}
use Rattle.reading.specs.Whole.{HouseNetwork}

abbrev pub Adding : HouseNetwork → Type 0
Adding N = All (λ (p : Policy). 1 ≤ p.added) N.policies

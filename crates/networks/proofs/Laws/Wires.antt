-- Wires stand by their to end, then by their from end; and what comes over a lawful one.
--     wire_order                 what the key of a wire says where ids are ids
--     into_rise, into_all        the wires into a box stand by rising sender, and have what every wire has
--     edge_there, edge_wire, edge_ends     there is a wire from u to v exactly where uv is an edge; of rising wires each is the one between its ends
--     trans_dearer               what comes over a lawful wire costs more
use mathlib.Core.Path.{◌≡◌, refl, ◌∙◌}
use mathlib.Core.Bool.{Bool, true, false, cond, ◌||◌, and_comm}
use mathlib.Core.List.{List, [], ◌∷◌}
use mathlib.Core.Logic.{◌↔◌, ◌⊎◌, inl, inr, ⊎_elim}
use mathlib.Core.Option.{Option, none, some, map, get_or}
use Prim.Native.Nat.{ℕ, suc, ◌-◌, ◌*◌, ◌<◌, ◌≤◌}
use native.Mathlib.Omega.{arith}
use lib.Dec.{eqb}
use lib.ListN.{get_elem?}
use borrow.Author.Tests.{eqb-true, eq-eqb}
use Rattle.lists.specs.All.{All, any}
use Rattle.lists.proofs.All.{all_map, all_of, all_each, all_at, any_congr}
use Rattle.lists.specs.Answer.{is_some}
use Rattle.lists.proofs.Filter.{any_filter, all_filter, filtered_all}
use Rattle.lists.specs.Sorted.{find, Rises}
use Rattle.lists.proofs.Sorted.{rises_weak, rises_filter, find_key, find_all, find_self}
use Rattle.lists.proofs.Test.{le_or_lt}
use Rattle.networks.specs.Algebra.{Algebra, Costs}
use Rattle.networks.specs.Network.{Wire, Network, NetworkOver, ids, wire_key, wires_into}
use Rattle.networks.specs.Paper.{E, edge}
use Rattle.networks.specs.Solution.{trans}

pub wire_order : (w v : Wire) → w.from < ids → v.from < ids → (wire_key w < wire_key v) ↔ ((w.to < v.to) ⊎ ((w.to ≡ v.to) × (w.from < v.from)))
wire_order w v l m = (
  forth,
  ⊎_elim (λ (h : w.to < v.to). omega arith)
      (λ (h : (w.to ≡ v.to) × (w.from < v.from)). let e = h.0 in let k = h.1 in omega arith),
)
  where
    forth : wire_key w < wire_key v → (w.to < v.to) ⊎ ((w.to ≡ v.to) × (w.from < v.from))
    forth h = ⊎_elim (λ (k : v.to ≤ w.to). inr (omega arith, omega arith)) (λ (k : w.to < v.to). inl k) (le_or_lt v.to w.to)

-- whether an element has a key
found_some : {A : Type 0} (key : A → ℕ) (i : ℕ) (xs : List A) → is_some (find key i xs) ≡ any (λ (x : A). eqb (key x) i) xs
found_some key i [] = refl
found_some {A} key i (x ∷ xs) = go (eqb (key x) i) (found_some key i xs)
  where
    go : (t : Bool) → is_some (find key i xs) ≡ any (λ (y : A). eqb (key y) i) xs
        → is_some (cond t (some x) (find key i xs)) ≡ t || any (λ (y : A). eqb (key y) i) xs
    go true q = refl
    go false q = q

-- wires with one to end rise by their from ends
from_rise : (v low : ℕ) (ws : List Wire) → All (λ (w : Wire). w.to ≡ v) ws → Rises wire_key low ws → Rises (λ (w : Wire). w.from) (low - v * ids) ws
from_rise v low [] h r = tt
from_rise v low (w ∷ ws) h r =
    let e : w.to ≡ v = h.0 in
    let l : low ≤ wire_key w = r.0 in (
      omega arith,
      rises_weak (λ (x : Wire). x.from) (suc w.from) (suc (wire_key w) - v * ids) ws (omega arith)
          (from_rise v (suc (wire_key w)) ws h.1 r.1),
    )

module _ {R P D : Type 0} (N : Network R P D) where
  pub into_all : (Q : Wire → Type 0) (v : ℕ) → All Q N.wires → All (λ (w : Wire). Q w × (w.to ≡ v)) (wires_into N v)
  into_all Q v h = all_filter (λ (w : Wire). Q w × (w.to ≡ v)) (λ (w : Wire). eqb w.to v) N.wires
      (all_map N.wires (λ w q e. (q, eqb-true w.to v e)) h)

  pub into_rise : Rises wire_key 0 N.wires → (v : ℕ) → Rises (λ (w : Wire). w.from) 0 (wires_into N v)
  into_rise rise v = rises_weak (λ (w : Wire). w.from) 0 (0 - v * ids) (wires_into N v) (omega arith) (from_rise v 0 (wires_into N v)
      (all_filter (λ (w : Wire). w.to ≡ v) (λ (w : Wire). eqb w.to v) N.wires (all_of N.wires (λ w e. eqb-true w.to v e)))
      (rises_filter wire_key (λ (w : Wire). eqb w.to v) 0 N.wires rise))

  pub edge_there : (u v : ℕ) → is_some (edge N u v) ≡ E N u v
  edge_there u v = found_some (λ (w : Wire). w.from) u (wires_into N v)
      ∙ any_filter (λ (w : Wire). eqb w.to v) (λ (w : Wire). eqb w.from u) N.wires
      ∙ any_congr _ _ N.wires (all_of N.wires (λ w. and_comm (eqb w.to v) (eqb w.from u)))

  pub edge_wire : Rises wire_key 0 N.wires → All (λ (w : Wire). edge N w.from w.to ≡ some w) N.wires
  edge_wire rise = all_map N.wires (λ w f. f w.to (eq-eqb w.to w.to refl))
      (all_each (λ (v : ℕ) (w : Wire). eqb w.to v ≡ true → edge N w.from v ≡ some w) N.wires
      (λ v. filtered_all (λ (w : Wire). edge N w.from v ≡ some w) (λ (w : Wire). eqb w.to v) N.wires
      (find_self (λ (w : Wire). w.from) 0 (wires_into N v) (into_rise rise v))))

  pub edge_ends : (Q : Wire → Type 0) (u v : ℕ) (w : Wire) → All Q N.wires → edge N u v ≡ some w → Q w × (w.from ≡ u) × (w.to ≡ v)
  edge_ends Q u v w h e =
      let f = find_all (λ (x : Wire). x.from) (λ (x : Wire). Q x × (x.to ≡ v)) u (wires_into N v) w (into_all Q v h) e in
      (f.0, find_key (λ (x : Wire). x.from) u (wires_into N v) w e, f.1)

module _ (𝓐 : Algebra) (costs : Costs 𝓐) (N : NetworkOver 𝓐) (lawful : All costs.Lawful N.policies) where
  open 𝓐 use {Route, Policy, no_route, carry}

  pub trans_dearer : (w : Wire) (r : Route) → (trans 𝓐 N w r ≡ no_route → ⊥) → costs.cost r < costs.cost (trans 𝓐 N w r)
  trans_dearer w r = go (get_elem? N.policies w.policy) refl
    where
      over : Option Policy → Route
      over o = get_or (map (λ (p : Policy). carry p r) o) no_route

      go : (o : Option Policy) → get_elem? N.policies w.policy ≡ o → (over o ≡ no_route → ⊥) → costs.cost r < costs.cost (over o)
      go none q present = absurd (present refl)
      go (some p) q present = costs.dearer p r (all_at costs.Lawful N.policies w.policy p lawful q) present

-- The box that a trail goes back to, and the boxes behind a box, taken apart by their definitions.
use mathlib.Core.Path.{◌≡◌, refl}
use mathlib.Core.Bool.{false}
use mathlib.Core.List.{[], ◌∷◌}
use mathlib.Core.Option.{none, some, Option-elim, none-ne-some, map-eq-none_iff, map-eq-some_iff}
use Prim.Native.Nat.{ℕ, zero, suc}
use lib.ListN.{length}
use Rattle.lists.specs.All.{any}
use Rattle.lists.specs.Filter.{first_that}
use Rattle.lists.proofs.Filter.{first_that_none}
use Rattle.lists.proofs.Test.{cond_off}
use Rattle.networks.specs.Algebra.{Algebra}
use Rattle.networks.specs.Network.{Wire, NetworkOver, own_boxes, box, wires_into}
use Rattle.networks.specs.Trail.{gives, supplier, stops, sender, behind, trail_behind}

module _ (𝓐 : Algebra) (N : NetworkOver 𝓐) (ℒ : ℕ → 𝓐.Route) where
  pub goes_on : (i j : ℕ) → sender 𝓐 N ℒ i ≡ some j → (stops 𝓐 N ℒ (box N i) (ℒ i) ≡ false) × (supplier 𝓐 N ℒ i ≡ some j)
  unfolding sender
  goes_on i j e = cond_off (stops 𝓐 N ℒ (box N i) (ℒ i)) none (supplier 𝓐 N ℒ i) (some j) (none-ne-some j) e

  pub supplier_wire : (i j : ℕ) → supplier 𝓐 N ℒ i ≡ some j → (w : Wire) × (first_that (gives 𝓐 N ℒ (ℒ i)) (wires_into N i) ≡ some w) × (w.from ≡ j)
  unfolding supplier
  supplier_wire i j e = (map-eq-some_iff (λ (w : Wire). w.from) (first_that (gives 𝓐 N ℒ (ℒ i)) (wires_into N i))).0 e

  pub supplier_none : (i : ℕ) → supplier 𝓐 N ℒ i ≡ none → any (gives 𝓐 N ℒ (ℒ i)) (wires_into N i) ≡ false
  unfolding supplier
  supplier_none i e = first_that_none (gives 𝓐 N ℒ (ℒ i)) (wires_into N i)
      ((map-eq-none_iff (λ (w : Wire). w.from) (first_that (gives 𝓐 N ℒ (ℒ i)) (wires_into N i))).0 e)

  pub behind_end : (n i : ℕ) → sender 𝓐 N ℒ i ≡ none → behind 𝓐 N ℒ n i ≡ []
  unfolding behind Option-elim
  behind_end zero i e = refl
  behind_end (suc n) i e = rw e refl

  pub trail_end : (i : ℕ) → sender 𝓐 N ℒ i ≡ none → trail_behind 𝓐 N ℒ i ≡ []
  unfolding trail_behind
  trail_end i e = behind_end (length (own_boxes N)) i e

  pub behind_next : (n i j : ℕ) → sender 𝓐 N ℒ i ≡ some j → behind 𝓐 N ℒ (suc n) i ≡ j ∷ behind 𝓐 N ℒ n j
  unfolding behind Option-elim
  behind_next n i j e = rw e refl

-- The refusals of judging and cutting, 17 before 18 before 19, with their places: the lowest own box without an entry; the number asked,
-- which no own box has; the lowest own box that a cut wire leaves and whose promise is not its note. What is not refused is a verdict on
-- all own boxes, or the fragment.
use mathlib.Core.Path.{◌≡◌, sym}
use mathlib.Core.Bool.{true}
use mathlib.Core.Logic.{◌⊎◌}
use mathlib.Core.Option.{none}
use Prim.Native.Nat.{ℕ}
use Rattle.networks.specs.Algebra.{Algebra}
use Rattle.networks.specs.Network.{Own, NetworkOver, owns}
use Rattle.networks.specs.Sound.{Bounds, Sound}
use Rattle.networks.specs.Sheets.{Sheet, RouteList, number, note, listed}
use Rattle.lists.specs.Answer.{given, refused}
use Rattle.networks.specs.Lowest.{LowestOwn, Entered}
use Rattle.networks.specs.Judge.{judge}
use Rattle.networks.specs.Cut.{fragment, Clashes, cut}
use Rattle.networks.proofs.Laws.Cutting.{cut_given}
use Rattle.networks.proofs.Laws.Refused.{judge_17, cut_17_18_19}

module _ (𝓐 : Algebra) (B : Bounds) (N : NetworkOver 𝓐) (sound : Sound B N) where
  open 𝓐 use {Route, Demand}

  pub judge_refused : (L : RouteList Route) (n place : ℕ) → judge 𝓐 N L ≡ refused n place
      → (n ≡ 17) × LowestOwn N (λ (b : Own Route Demand). listed L b.id ≡ none) place
  judge_refused = judge_17 𝓐 N sound.boxes_rise

  pub cut_refused : (S : Sheet Route) (k n place : ℕ) → cut 𝓐 N S k ≡ refused n place
      → ((n ≡ 17) × LowestOwn N (λ (b : Own Route Demand). note S b.id ≡ none) place)
      ⊎ (((n ≡ 18) × (place ≡ k) × ((w : ℕ) → owns N w ≡ true → number S w ≡ k → ⊥) × Entered N (note S))
      ⊎ ((n ≡ 19) × LowestOwn N (Clashes 𝓐 N S) place × Entered N (note S)))
  cut_refused = cut_17_18_19 𝓐 N sound.boxes_rise

  pub cut_fragment : (S : Sheet Route) (k : ℕ) (F : NetworkOver 𝓐) → cut 𝓐 N S k ≡ given F → F ≡ fragment N S k
  cut_fragment S k F e = sym (cut_given 𝓐 N S k F e).2

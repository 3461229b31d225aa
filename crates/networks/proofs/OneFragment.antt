-- All own boxes in one fragment: no wire is cut, so that no promise has to be added, and the cutter gives the network itself.
use mathlib.Core.Path.{◌≡◌, sym, ap, ◌∙◌}
use mathlib.Core.Bool.{true, true≢false}
use mathlib.Core.Option.{some}
use Prim.Native.Nat.{ℕ}
use borrow.Author.Tests.{eq-eqb}
use Rattle.lists.specs.All.{All}
use Rattle.lists.proofs.All.{all_map, all_any}
use Rattle.networks.specs.Algebra.{Algebra}
use Rattle.networks.specs.Network.{Own, NetworkOver, own_boxes}
use Rattle.networks.specs.Sound.{Bounds, Sound}
use Rattle.networks.specs.Sheets.{Sheet, number, note}
use Rattle.lists.specs.Answer.{given}
use Rattle.networks.specs.Lowest.{Entered}
use Rattle.networks.specs.Cut.{leaves, numbered, cut}
use Rattle.networks.proofs.Laws.Cutting.{cut_answer_lem}
use Rattle.networks.proofs.Laws.Uncut.{none_leaves, same_network}

pub one_fragment : (𝓐 : Algebra) (B : Bounds) (N : NetworkOver 𝓐) (S : Sheet 𝓐.Route) (k : ℕ)
    → Sound B N → Entered N (note S) → All (λ (b : Own 𝓐.Route 𝓐.Demand). number S b.id ≡ k) (own_boxes N)
    → cut 𝓐 N S k ≡ given N
one_fragment 𝓐 B N S k sound entered one =
    cut_answer_lem 𝓐 N S (record { entered = entered; notes = unclashed }) k
    ∙ rw (all_any (numbered N S k) (own_boxes N) sound.some_own (all_map (own_boxes N) (λ b e. eq-eqb (number S b.id) k e) one))
    (ap given (same_network B N S k sound one))
  where
    unclashed : All (λ (b : Own 𝓐.Route 𝓐.Demand). leaves N S b.id ≡ true → (q : 𝓐.Route) → b.promise ≡ some q
        → note S b.id ≡ some q) (own_boxes N)
    unclashed = all_map (own_boxes N) (λ b e l q p. absurd (true≢false (sym l ∙ e))) (none_leaves B N S k sound one)

-- Demand 3, first half. For a sound network, a list with an entry for every own box and a sheet that cuts the network: the list passes
-- in every fragment exactly where it passes in the whole and has the note at each box that a cut wire leaves. Every fragment is every one
-- that the cutter gives. Of lists that fail nothing is said: number, box and route may differ between a fragment and the whole.
use mathlib.Core.Path.{◌≡◌, subst}
use mathlib.Core.Logic.{◌↔◌}
use mathlib.Core.Option.{some}
use Prim.Native.Nat.{ℕ}
use Rattle.networks.specs.Algebra.{Algebra}
use Rattle.networks.specs.Network.{NetworkOver}
use Rattle.networks.specs.Sound.{Bounds, Sound}
use Rattle.networks.specs.Sheets.{Sheet, RouteList, listed}
use Rattle.lists.specs.Answer.{given}
use Rattle.networks.specs.Lowest.{Entered}
use Rattle.networks.specs.Solution.{Solution}
use Rattle.networks.specs.Judge.{Passes}
use Rattle.networks.specs.Cut.{fragment, Agrees, cut, Cuts}
use Rattle.networks.proofs.Laws.Formed.{sound_formed}
use Rattle.networks.proofs.Laws.Cutting.{cut_given, cuts_fits}
use Rattle.networks.proofs.Laws.Solutions.{whole_solved, notes_kept, fragment_solved}
use Rattle.networks.proofs.Laws.Whole.{whole_agrees, whole_passes, part_passes, every_part}

pub fragments_and_whole : (𝓐 : Algebra) (B : Bounds) (N : NetworkOver 𝓐) (S : Sheet 𝓐.Route) (L : RouteList 𝓐.Route)
    → Sound B N → Cuts 𝓐 N S → Entered N (listed L)
    → ((k : ℕ) (F : NetworkOver 𝓐) → cut 𝓐 N S k ≡ given F → Passes 𝓐 F L) ↔ (Passes 𝓐 N L × Agrees N S (listed L))
fragments_and_whole 𝓐 B N S L sound cuts entered = (
  λ h. let parts = every_part 𝓐 B N S L sound cuts entered h in
      (whole_passes 𝓐 B N S L sound cuts entered parts, whole_agrees 𝓐 B N S L sound cuts entered parts),
  λ h k F e. subst (λ (G : NetworkOver 𝓐). Passes 𝓐 G L) (cut_given 𝓐 N S k F e).2 (part_passes 𝓐 B N S L sound cuts entered h.0 h.1 k),
)

-- The same of solutions alone, for any mapping: what solves every fragment solves the whole and has the notes, and back.
pub solutions_and_whole : (𝓐 : Algebra) (B : Bounds) (N : NetworkOver 𝓐) (S : Sheet 𝓐.Route) (ℒ : ℕ → 𝓐.Route)
    → Sound B N → Cuts 𝓐 N S
    → ((k : ℕ) → Solution 𝓐 (fragment N S k) ℒ) ↔ (Solution 𝓐 N ℒ × Agrees N S (λ (i : ℕ). some (ℒ i)))
solutions_and_whole 𝓐 B N S ℒ sound cuts = (
  λ h. (whole_solved 𝓐 N S ℒ sound.inputs_used h, notes_kept 𝓐 N S ℒ sound.inputs_used h ((cuts_fits 𝓐 N S B sound).0 cuts)),
  λ h. fragment_solved 𝓐 N S ℒ (sound_formed B N sound) h.0 h.1,
)

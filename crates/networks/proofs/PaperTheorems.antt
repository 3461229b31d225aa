-- Document 000's theorems IV.1 and IV.2 and corollaries IV.3 and IV.4, for as many fragments as a sheet has numbers. The theorems are the
-- two directions of fragments and whole, which so says no less than the paper.
use mathlib.Core.Path.{◌≡◌, sym, ap, subst}
use mathlib.Core.Option.{some}
use Prim.Native.Nat.{ℕ}
use Rattle.lists.specs.All.{All}
use Rattle.lists.proofs.All.{all_map, all_both}
use Rattle.networks.specs.Algebra.{Algebra}
use Rattle.networks.specs.Network.{Own, NetworkOver, is_box, own_boxes}
use Rattle.networks.specs.Sound.{Bounds, Sound}
use Rattle.networks.specs.Sheets.{Sheet, note}
use Rattle.networks.specs.Lowest.{Entered}
use Rattle.networks.specs.Solution.{Solution, Holds}
use Rattle.networks.specs.Cut.{only, fragment, Agrees}
use Rattle.networks.specs.Paper.{MadeUp}
use Rattle.networks.proofs.Laws.Boxes.{own_there}
use Rattle.networks.proofs.Laws.Formed.{Formed, sound_formed, fragment_formed_lem}
use Rattle.networks.proofs.Laws.Solutions.{everywhere, anywhere, solution_ext, whole_solved, fragment_solved}

module _ (𝓐 : Algebra) (B : Bounds) (N : NetworkOver 𝓐) (S : Sheet 𝓐.Route) (sound : Sound B N) where
  open 𝓐 use {Route, Demand}

  -- Theorem IV.2: a solution that has the notes at the cut wires solves every fragment.
  pub theorem_IV_2 : (ℒ : ℕ → Route) → Solution 𝓐 N ℒ → Agrees N S (λ (i : ℕ). some (ℒ i)) → (k : ℕ) → Solution 𝓐 (fragment N S k) ℒ
  theorem_IV_2 ℒ = fragment_solved 𝓐 N S ℒ (sound_formed B N sound)

  module _ (entered : Entered N (note S)) (ℒ : ℕ → Route) (parts : ℕ → ℕ → Route) (made : MadeUp N S ℒ parts) where
    formed : (k : ℕ) → Formed (fragment N S k)
    formed k = fragment_formed_lem N S (sound_formed B N sound) (only k) entered

    -- Theorem IV.1: solutions of the fragments make up a solution of the whole.
    pub theorem_IV_1 : ((k : ℕ) → Solution 𝓐 (fragment N S k) (parts k)) → Solution 𝓐 N ℒ
    theorem_IV_1 solved = whole_solved 𝓐 N S ℒ sound.inputs_used
        (λ k. solution_ext 𝓐 (fragment N S k) (formed k) (parts k) ℒ (λ i t. sym (made k i t)) (solved k))

    -- the parts' routes at a fragment's own boxes
    own_made : (k : ℕ) → All (λ (b : Own Route Demand). ℒ b.id ≡ parts k b.id) (own_boxes (fragment N S k))
    own_made k = all_map (own_boxes (fragment N S k)) (λ b e. made k b.id (ap is_box e)) (own_there (fragment N S k) (formed k).rise)

    -- Corollary IV.3: a property that holds on all parts holds on the whole.
    pub corollary_IV_3 : (P : ℕ → Route → Type 0) → ((k : ℕ) → Holds 𝓐 P (fragment N S k) (parts k)) → Holds 𝓐 P N ℒ
    corollary_IV_3 P holds = everywhere N S (λ (k : ℕ) (b : Own Route Demand). P b.id (ℒ b.id))
        (λ k. all_map (own_boxes (fragment N S k)) (λ b f. subst (P b.id) (sym f.0) f.1)
        (all_both _ _ (own_boxes (fragment N S k)) (own_made k) (holds k)))

    -- Corollary IV.4: a property that fails on a part fails on the whole.
    pub corollary_IV_4 : (P : ℕ → Route → Type 0) (k : ℕ) → (Holds 𝓐 P (fragment N S k) (parts k) → ⊥) → Holds 𝓐 P N ℒ → ⊥
    corollary_IV_4 P k fails holds = fails (all_map (own_boxes (fragment N S k)) (λ b f. subst (P b.id) f.0 f.1)
        (all_both _ _ (own_boxes (fragment N S k)) (own_made k)
        (anywhere N S (λ (m : ℕ) (b : Own Route Demand). P b.id (ℒ b.id)) holds k)))

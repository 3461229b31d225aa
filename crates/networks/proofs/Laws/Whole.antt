-- Fragments and whole, in both directions.
--     whole_agrees, whole_passes     a list that passes in every fragment has the notes, and passes in the whole
--     part_passes                    and back
--     every_part                     every fragment that the cutter gives, and every fragment
use mathlib.Core.Path.{◌≡◌, refl, sym, ap, ◌∙◌}
use mathlib.Core.Bool.{Bool, true, false}
use mathlib.Core.Option.{some}
use Prim.Native.Nat.{ℕ}
use Rattle.lists.specs.All.{All, any}
use Rattle.lists.proofs.All.{all_map, all_both}
use Rattle.networks.specs.Algebra.{Algebra}
use Rattle.networks.specs.Network.{Own, NetworkOver, own_boxes}
use Rattle.networks.specs.Sound.{Bounds, Sound}
use Rattle.networks.specs.Sheets.{Sheet, RouteList, note, listed}
use Rattle.lists.specs.Answer.{given, is_some}
use Rattle.networks.specs.Lowest.{Entered}
use Rattle.networks.specs.Solution.{mapping, Solution, Demands}
use Rattle.networks.specs.Judge.{held, Passes}
use Rattle.networks.specs.Cut.{only, promised, leaves, fragment, numbered, Agrees, cut, Cuts}
use Rattle.lists.proofs.Answer.{is_some_true}
use Rattle.networks.proofs.Laws.Formed.{Formed, sound_formed, fragment_formed_lem}
use Rattle.networks.proofs.Laws.Cutting.{Fits, cut_answer_lem, cuts_fits}
use Rattle.networks.proofs.Laws.Solutions.{everywhere, anywhere, promised_note, solution_ext, whole_solved, fragment_solved}
use Rattle.networks.proofs.Laws.Judging.{own_held, passes_solved}
use Rattle.networks.proofs.Laws.Mapping.{kept_mapping, empty_passes}

module _ (𝓐 : Algebra) (B : Bounds) (N : NetworkOver 𝓐) (S : Sheet 𝓐.Route) (L : RouteList 𝓐.Route)
    (sound : Sound B N) (cuts : Cuts 𝓐 N S) (entered : Entered N (listed L)) where
  open 𝓐 use {Route, Demand, meets}

  formed : Formed N
  formed = sound_formed B N sound

  fits : Fits N S
  fits = (cuts_fits 𝓐 N S B sound).0 cuts

  formed_in : (k : ℕ) → Formed (fragment N S k)
  formed_in k = fragment_formed_lem N S formed (only k) fits.entered

  -- a listed route, where there is an entry
  held_listed : All (λ (b : Own Route Demand). listed L b.id ≡ some (held 𝓐 L b.id)) (own_boxes N)
  held_listed = all_map (own_boxes N) (λ b t. let f = is_some_true (listed L b.id) t in rw f.1 refl) entered

  -- from the fragments to the whole
  module _ (parts : (k : ℕ) → Passes 𝓐 (fragment N S k) L) where
    abbrev solved : (k : ℕ) → Entered (fragment N S k) (listed L) × Solution 𝓐 (fragment N S k) (mapping 𝓐 (fragment N S k) L)
        × Demands 𝓐 (fragment N S k) (mapping 𝓐 (fragment N S k) L)
    solved k = (passes_solved 𝓐 (fragment N S k) L (formed_in k).rise).0 (parts k)

    pub whole_agrees : Agrees N S (listed L)
    whole_agrees = all_map (own_boxes N)
        (λ b f t. f.0 ∙ promised_note (held 𝓐 L b.id) b.promise (note S b.id) (leaves N S b.id) t f.1.0 (f.1.1.0 t) f.1.1.1)
        (all_both _ _ (own_boxes N) held_listed (all_both _ _ (own_boxes N) fits.entered (all_both _ _ (own_boxes N) fits.notes promises)))
      where
        promises : All (λ (b : Own Route Demand). (q : Route) → promised b.promise (leaves N S b.id) (note S b.id) ≡ some q
            → held 𝓐 L b.id ≡ q) (own_boxes N)
        promises = everywhere N S (λ (k : ℕ) (b : Own Route Demand). (q : Route) → b.promise ≡ some q → held 𝓐 L b.id ≡ q)
            (λ k. all_map (own_boxes (fragment N S k)) (λ b f q e. sym f.0 ∙ f.1 q e)
            (all_both _ _ (own_boxes (fragment N S k)) (own_held 𝓐 (fragment N S k) L (formed_in k).rise) (solved k).1.equation_8))

    pub whole_passes : Passes 𝓐 N L
    whole_passes = (passes_solved 𝓐 N L formed.rise).1 (
      entered,
      whole_solved 𝓐 N S (mapping 𝓐 N L) sound.inputs_used
          (λ k. solution_ext 𝓐 (fragment N S k) (formed_in k) (mapping 𝓐 (fragment N S k) L) (mapping 𝓐 N L)
          (kept_mapping 𝓐 N S L k formed whole_agrees) (solved k).1),
      all_map (own_boxes N) (λ b f. rw f.0 f.1) (all_both _ _ (own_boxes N) (own_held 𝓐 N L formed.rise) demands),
    )
      where
        demands : All (λ (b : Own Route Demand). meets b.demand (held 𝓐 L b.id) ≡ true) (own_boxes N)
        demands = everywhere N S (λ (k : ℕ) (b : Own Route Demand). meets b.demand (held 𝓐 L b.id) ≡ true)
            (λ k. all_map (own_boxes (fragment N S k)) (λ b f. rw f.0 at f.1)
            (all_both _ _ (own_boxes (fragment N S k)) (own_held 𝓐 (fragment N S k) L (formed_in k).rise) (solved k).2))

  -- and back
  pub part_passes : Passes 𝓐 N L → Agrees N S (listed L) → (k : ℕ) → Passes 𝓐 (fragment N S k) L
  part_passes passes agrees k = (passes_solved 𝓐 (fragment N S k) L (formed_in k).rise).1 (
    anywhere N S (λ (m : ℕ) (b : Own Route Demand). is_some (listed L b.id) ≡ true) entered k,
    solution_ext 𝓐 (fragment N S k) (formed_in k) (mapping 𝓐 N L) (mapping 𝓐 (fragment N S k) L)
        (λ i t. sym (kept_mapping 𝓐 N S L k formed agrees i t))
        (fragment_solved 𝓐 N S (mapping 𝓐 N L) formed solved.1 mapped_agrees k),
    all_map (own_boxes (fragment N S k)) (λ b f. rw f.0 f.1)
        (all_both _ _ (own_boxes (fragment N S k)) (own_held 𝓐 (fragment N S k) L (formed_in k).rise) demands),
  )
    where
      solved : Entered N (listed L) × Solution 𝓐 N (mapping 𝓐 N L) × Demands 𝓐 N (mapping 𝓐 N L)
      solved = (passes_solved 𝓐 N L formed.rise).0 passes

      mapped_agrees : Agrees N S (λ (i : ℕ). some (mapping 𝓐 N L i))
      mapped_agrees = all_map (own_boxes N) (λ b f t. ap some f.0 ∙ sym f.1.0 ∙ f.1.1 t)
          (all_both _ _ (own_boxes N) (own_held 𝓐 N L formed.rise) (all_both _ _ (own_boxes N) held_listed agrees))

      demands : All (λ (b : Own Route Demand). meets b.demand (held 𝓐 L b.id) ≡ true) (own_boxes (fragment N S k))
      demands = anywhere N S (λ (m : ℕ) (b : Own Route Demand). meets b.demand (held 𝓐 L b.id) ≡ true)
          (all_map (own_boxes N) (λ b f. rw f.0 at f.1) (all_both _ _ (own_boxes N) (own_held 𝓐 N L formed.rise) solved.2)) k

  -- every fragment that the cutter gives, and every fragment
  pub every_part : ((k : ℕ) (F : NetworkOver 𝓐) → cut 𝓐 N S k ≡ given F → Passes 𝓐 F L) → (k : ℕ) → Passes 𝓐 (fragment N S k) L
  every_part h k = go (any (numbered N S k) (own_boxes N)) refl
    where
      go : (t : Bool) → any (numbered N S k) (own_boxes N) ≡ t → Passes 𝓐 (fragment N S k) L
      go true q = h k (fragment N S k) (cut_answer_lem 𝓐 N S fits k ∙ rw q refl)
      go false q = empty_passes 𝓐 N S L k q

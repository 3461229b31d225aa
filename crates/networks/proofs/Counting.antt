-- Where a list passes in every fragment, the whole passes with the sum of the fragments' judged counts: on a pass all own boxes are judged,
-- and each own box of the network is one of exactly one fragment.
use mathlib.Core.Path.{◌≡◌, refl, sym, ap, ◌∙◌, fun_ext}
use mathlib.Core.Bool.{Bool, true, false, cond}
use mathlib.Core.List.{[], ◌∷◌}
use mathlib.Core.Option.{none, some}
use Prim.Native.Nat.{ℕ, ◌<◌}
use lib.ListN.{length, length-map}
use Rattle.lists.specs.All.{All, any}
use Rattle.lists.specs.Answer.{Answer, given, and_then, row}
use Rattle.lists.specs.Filter.{filter}
use Rattle.lists.specs.Test.{first_applying}
use Rattle.lists.proofs.Filter.{filter_none}
use Rattle.networks.specs.Algebra.{Algebra}
use Rattle.networks.specs.Network.{Own, NetworkOver, own_boxes}
use Rattle.networks.specs.Sound.{Bounds, Sound}
use Rattle.networks.specs.Sheets.{Sheet, RouteList, number, listed}
use Rattle.networks.specs.Lowest.{Entered}
use Rattle.networks.specs.Judge.{pass, judge, judged, Passes}
use Rattle.networks.specs.Cut.{only, promising_own, fragment, numbered, cut, Cuts}
use Rattle.networks.specs.Counts.{sum, judged_in}
use Rattle.networks.proofs.Laws.Pieces.{own_boxes_fragment}
use Rattle.networks.proofs.Laws.Cutting.{cut_answer_lem, cuts_fits}
use Rattle.networks.proofs.Laws.Counts.{sum_numbers}
use Rattle.networks.proofs.FragmentsAndWhole.{fragments_and_whole}

module _ (𝓐 : Algebra) (B : Bounds) (N : NetworkOver 𝓐) (S : Sheet 𝓐.Route) (L : RouteList 𝓐.Route)
    (sound : Sound B N) (cuts : Cuts 𝓐 N S) (parts : (k : ℕ) (F : NetworkOver 𝓐) → cut 𝓐 N S k ≡ given F → Passes 𝓐 F L) where
  open 𝓐 use {Route, Demand}

  -- in each fragment all of its own boxes are judged, and in one that is not given there are none
  part_count : (k : ℕ) → judged_in 𝓐 N S L k ≡ length (filter (numbered N S k) (own_boxes N))
  part_count k = ap in_part answer ∙ go (any (numbered N S k) (own_boxes N)) refl
    where
      in_part : Answer (NetworkOver 𝓐) → ℕ
      in_part a = judged (and_then a (λ (F : NetworkOver 𝓐). judge 𝓐 F L))

      answer : cut 𝓐 N S k ≡ first_applying (row 18 (cond (any (numbered N S k) (own_boxes N)) none (some k)) ∷ []) (given (fragment N S k))
      answer = cut_answer_lem 𝓐 N S ((cuts_fits 𝓐 N S B sound).0 cuts) k

      go : (t : Bool) → any (numbered N S k) (own_boxes N) ≡ t
          → in_part (first_applying (row 18 (cond t none (some k)) ∷ []) (given (fragment N S k))) ≡ length (filter (numbered N S k) (own_boxes N))
      go true q = ap judged (parts k (fragment N S k) (answer ∙ rw q refl))
          ∙ ap length (own_boxes_fragment N S (only k))
          ∙ length-map (filter (numbered N S k) (own_boxes N)) (promising_own N S)
      go false q = sym (ap length (filter_none (numbered N S k) (own_boxes N) q))

  pub counts_add_up : Entered N (listed L) → (n : ℕ) → All (λ (b : Own Route Demand). number S b.id < n) (own_boxes N)
      → judge 𝓐 N L ≡ given (pass (sum (judged_in 𝓐 N S L) n))
  counts_add_up entered n low = ((fragments_and_whole 𝓐 B N S L sound cuts entered).0 parts).0
      ∙ ap (λ (count : ℕ). given (pass count)) (sym (ap (λ (f : ℕ → ℕ). sum f n) (fun_ext part_count)
      ∙ sum_numbers (λ (b : Own Route Demand). number S b.id) n (own_boxes N) low))

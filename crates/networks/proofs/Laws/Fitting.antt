-- Two networks that fit are joined: no row of the table of refusals applies.
use mathlib.Core.Path.{◌≡◌, sym, ap, ap₂, ◌∙◌}
use mathlib.Core.Bool.{Bool, true, false, cond, not}
use mathlib.Core.Option.{Option, none, some, map}
use mathlib.Core.List.{List}
use Prim.Native.Nat.{ℕ, ◌≤◌}
use lib.ListN.{length}
use borrow.Author.Tests.{le-ltb}
use Rattle.lists.specs.All.{All, all_alike}
use Rattle.lists.proofs.All.{all_map, all_alike_self}
use Rattle.lists.specs.Answer.{given, is_some}
use Rattle.lists.proofs.Answer.{none_first}
use Rattle.lists.proofs.Filter.{none_first_that}
use Rattle.lists.specs.Sorted.{Rises}
use Rattle.networks.specs.Algebra.{Algebra, Telling}
use Rattle.networks.specs.Network.{Own, Input, NetworkOver, box_id, is_own_box, own_boxes, inputs, box, owns}
use Rattle.networks.specs.Sound.{Bounds}
use Rattle.networks.specs.Join.{joining, lower_of, over_bound, matched, unmatched, join_table, join, Fitting}
use Rattle.networks.proofs.Laws.Boxes.{own_there}
use Rattle.networks.proofs.Laws.Lowest.{none_lowest}

module _ (𝓐 : Algebra) where
  open 𝓐 use {Route, Policy, Demand}

  all_matched : (N M : NetworkOver 𝓐) → All (λ (a : Input Route). matched 𝓐 a.assumed (box M a.id) ≡ true) (inputs N) → unmatched 𝓐 N M ≡ none
  all_matched N M h = ap (map (λ (a : Input Route). a.id)) (none_first_that (λ (a : Input Route). not (matched 𝓐 a.assumed (box M a.id)))
      (inputs N) (all_map (inputs N) (λ a e. ap not e) h))

  within : (most count : ℕ) → count ≤ most → is_some (over_bound most count) ≡ false
  within most count l = ap (λ (t : Bool). is_some (cond t (some count) none)) (le-ltb most count l)

  pub fitting_joined : (telling : Telling 𝓐) (B : Bounds) (N M : NetworkOver 𝓐) → Rises box_id 0 N.boxes → Fitting 𝓐 B N M
      → join 𝓐 telling B N M ≡ given (joining N M)
  unfolding join
  fitting_joined telling B N M rise fit = none_first (join_table 𝓐 telling B N M) (given (joining N M)) (
    ap is_some (none_lowest (λ (b : Own Route Demand). owns M b.id) (own_boxes N)
        (all_map (own_boxes N) (λ b e. fit.own_once b.id (ap is_own_box e)) (own_there N rise))),
    (
      ap₂ (λ (p q : Option ℕ). is_some (lower_of p q)) (all_matched N M fit.first_matched) (all_matched M N fit.second_matched),
      (
        ap (λ (t : Bool). is_some {A = ℕ} (cond t none (some 0))) same_policies,
        (
          within B.boxes (length (joining N M).boxes) fit.boxes_within,
          (within B.wires (length (joining N M).wires) fit.wires_within, tt),
        ),
      ),
    ),
  )
    where
      same_policies : all_alike telling.alike N.policies M.policies ≡ true
      same_policies = ap (λ (ps : List Policy). all_alike telling.alike N.policies ps) (sym fit.one_table)
          ∙ all_alike_self telling.alike telling.alike_self N.policies

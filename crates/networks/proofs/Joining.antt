-- Joining two sound networks (document 02, K3): what is given is the joint network, and it is sound. The two may stand in either order, with
-- the same answer, refusals and their places too: each row of the table says the same of both orders where no row above it applies. Three may
-- be taken in either grouping, where both are given: a union of rising lists may.
use mathlib.Core.Path.{◌≡◌, refl, sym, ap, ◌∙◌, subst}
use mathlib.Core.Bool.{Bool, true, cond}
use mathlib.Core.Logic.{inl, inr, ⊎_elim}
use mathlib.Core.Option.{Option, none, some}
use mathlib.Core.List.{List, [], ◌∷◌}
use Prim.Native.Nat.{ℕ}
use lib.ListN.{length}
use Rattle.lists.specs.All.{all_alike}
use Rattle.lists.proofs.All.{all_alike_self, all_alike_true}
use Rattle.lists.specs.Answer.{Answer, given, and_then, row}
use Rattle.lists.proofs.Answer.{then_given}
use Rattle.lists.specs.Sorted.{Rises}
use Rattle.lists.specs.Test.{first_applying}
use Rattle.lists.proofs.Test.{same_test}
use Rattle.networks.specs.Algebra.{Algebra, Telling}
use Rattle.networks.specs.Network.{Own, Box, own, input, Wire, NetworkOver, box_id, own_boxes, box, owns, wires_into}
use Rattle.networks.specs.Sound.{Bounds, Sound}
use Rattle.networks.specs.Lowest.{lowest}
use Rattle.networks.specs.Join.{joining, lower_of, over_bound, unmatched, join, Fitting}
use Rattle.networks.specs.Joint.{Joint, OwnedTwice, EitherUnmatched}
use Rattle.networks.proofs.Laws.Joins.{policies_joining, box_joining, owns_joining, input_joining, first_own_lem, first_input}
use Rattle.networks.proofs.Laws.Joins.{own_of_either, input_of_either, length_boxes, length_own, joining_assoc}
use Rattle.networks.proofs.Laws.JointWires.{any_wires, wires_into_first, wires_comm, length_wires}
use Rattle.networks.proofs.Laws.JoinRows.{finds_same, finds_twice, finds_either, none_once, lower_none, matched_all, table_none}
use Rattle.networks.proofs.Laws.Fitted.{joined_fitting, boxes_comm, joining_swap, joining_comm, fitting_comm, joining_sound}

module _ (𝓐 : Algebra) (B : Bounds) (N M : NetworkOver 𝓐) (sound : Sound B N) (sound' : Sound B M) (fitting : Fitting 𝓐 B N M) where
  open 𝓐 use {Route, Demand}

  same : joining N M ≡ joining M N
  same = joining_comm 𝓐 B N M sound sound' fitting

  back : (i : ℕ) (v : Box Route Demand) → box (joining M N) i ≡ some v → box (joining N M) i ≡ some v
  back i v e = ap (λ (F : NetworkOver 𝓐). box F i) same ∙ e

  joining_is : Joint N M (joining N M)
  joining_is =
      let rise = sound.boxes_rise in
      let rise' = sound'.boxes_rise in
      let fitting' = fitting_comm 𝓐 B N M sound sound' fitting in
      record {
        boxes = box_joining N M rise rise';
        owned = owns_joining N M rise rise';
        entering = input_joining N M rise rise';
        own_boxes_lem = λ i b. (
          own_of_either N M rise rise' i b,
          ⊎_elim (λ (e : box N i ≡ some (own b)). first_own_lem N M rise rise' i b e)
              (λ (e : box M i ≡ some (own b)). back i (own b) (first_own_lem M N rise' rise i b e)),
        );
        inputs = λ i a. (
          input_of_either N M rise rise' i a,
          λ h. ⊎_elim (λ (e : box N i ≡ some (input a)). first_input N M rise rise' i a e h.2)
              (λ (e : box M i ≡ some (input a)). back i (input a) (first_input M N rise' rise i a e h.1)) h.0,
        );
        wires = any_wires B N M sound sound' fitting.own_once;
        first_into = wires_into_first B N M sound sound' fitting.own_once;
        second_into = λ i t. ap (λ (F : NetworkOver 𝓐). wires_into F i) same ∙ wires_into_first B M N sound' sound fitting'.own_once i t;
        policies = (policies_joining N M, policies_joining N M ∙ fitting.one_table);
        wire_count = length_wires B N M sound sound' fitting.own_once;
        own_count = length_own N M rise rise' fitting.own_once;
        box_count = length_boxes N M rise rise';
      }

module _ (𝓐 : Algebra) (telling : Telling 𝓐) (B : Bounds) (N M : NetworkOver 𝓐) (sound : Sound B N) (sound' : Sound B M) where
  pub join_is : (F : NetworkOver 𝓐) → join 𝓐 telling B N M ≡ given F → Joint N M F
  join_is F e =
      let f = joined_fitting 𝓐 telling B N M F e in
      subst (λ (G : NetworkOver 𝓐). Joint N M G) f.1 (joining_is 𝓐 B N M sound sound' f.0)

  pub join_sound : (F : NetworkOver 𝓐) → join 𝓐 telling B N M ≡ given F → Sound B F
  join_sound F e =
      let f = joined_fitting 𝓐 telling B N M F e in
      subst (λ (G : NetworkOver 𝓐). Sound B G) f.1 (joining_sound 𝓐 B N M sound sound' f.0)

-- a row of a table above an answer, where all is the same
same_row : {A : Type 0} (n : ℕ) (p q : Option ℕ) (x y : Answer A) → p ≡ q → (q ≡ none → x ≡ y) → first_applying (row n p ∷ []) x ≡ first_applying (row n q ∷ []) y
same_row n p q x y e f = ap (λ (r : Option ℕ). first_applying (row n r ∷ []) x) e ∙ go q f
  where
    go : (r : Option ℕ) → (r ≡ none → x ≡ y) → first_applying (row n r ∷ []) x ≡ first_applying (row n r ∷ []) y
    go none g = g refl
    go (some i) g = refl

alike_comm : {A : Type 0} (alike : A → A → Bool) → ((x y : A) → alike x y ≡ true → x ≡ y) → ((x : A) → alike x x ≡ true) → (xs ys : List A)
    → all_alike alike xs ys ≡ all_alike alike ys xs
alike_comm {A} alike same self xs ys = same_test (all_alike alike xs ys) (all_alike alike ys xs) (turn xs ys) (turn ys xs)
  where
    turn : (us vs : List A) → all_alike alike us vs ≡ true → all_alike alike vs us ≡ true
    turn us vs e = subst (λ (ws : List A). all_alike alike ws us ≡ true) (all_alike_true alike same us vs e) (all_alike_self alike self us)

module _ (𝓐 : Algebra) (telling : Telling 𝓐) (B : Bounds) where
  open 𝓐 use {Route, Demand}
  open telling use {alike, alike_true, alike_self}

  -- the places of 21 and 22 are the same from either side
  module _ (N M : NetworkOver 𝓐) (rise : Rises box_id 0 N.boxes) (rise' : Rises box_id 0 M.boxes) where
    same_21 : lowest (λ (b : Own Route Demand). owns M b.id) (own_boxes N) ≡ lowest (λ (b : Own Route Demand). owns N b.id) (own_boxes M)
    same_21 = finds_same (OwnedTwice 𝓐 N M) (OwnedTwice 𝓐 M N) _ _ (finds_twice 𝓐 N M rise) (finds_twice 𝓐 M N rise')
        (λ i h. (h.1, h.0)) (λ i h. (h.1, h.0))

    same_22 : lower_of (unmatched 𝓐 N M) (unmatched 𝓐 M N) ≡ lower_of (unmatched 𝓐 M N) (unmatched 𝓐 N M)
    same_22 = finds_same (EitherUnmatched 𝓐 N M) (EitherUnmatched 𝓐 M N) _ _ (finds_either 𝓐 N M rise rise') (finds_either 𝓐 M N rise' rise)
        (λ i. ⊎_elim inr inl) (λ i. ⊎_elim inr inl)

  -- the whole answer, row by row: each row's place is the same where none above it applies
  pub join_comm : (N M : NetworkOver 𝓐) → Sound B N → Sound B M → join 𝓐 telling B N M ≡ join 𝓐 telling B M N
  unfolding join
  join_comm N M sound sound' =
      same_row 21 _ _ _ _ (same_21 N M sound.boxes_rise sound'.boxes_rise) (λ a.
      let once = none_once N M (same_21 N M sound.boxes_rise sound'.boxes_rise ∙ a) in
      same_row 22 _ _ _ _ (same_22 N M sound.boxes_rise sound'.boxes_rise) (λ b.
      let all_matched = matched_all 𝓐 N M (lower_none (unmatched 𝓐 M N) (unmatched 𝓐 N M) b).1 in
      same_row 23 _ _ _ _ (ap (λ (t : Bool). cond t none (some 0)) (alike_comm alike alike_true alike_self N.policies M.policies)) (λ c.
      let table = table_none alike alike_true alike_self M.policies N.policies c in
      same_row 24 _ _ _ _ (ap (λ (vs : List (Box Route Demand)). over_bound B.boxes (length vs)) (boxes_comm 𝓐 B N M sound sound' once all_matched)) (λ d.
      same_row 24 _ _ _ _ (ap (λ (ws : List Wire). over_bound B.wires (length ws)) (wires_comm B N M sound sound' once)) (λ e.
      ap given (joining_swap 𝓐 B N M sound sound' once all_matched (sym table)))))))

  pub join_assoc : (N M K X Y : NetworkOver 𝓐) → Sound B N → Sound B M → Sound B K
      → and_then (join 𝓐 telling B N M) (λ (F : NetworkOver 𝓐). join 𝓐 telling B F K) ≡ given X
      → and_then (join 𝓐 telling B M K) (λ (G : NetworkOver 𝓐). join 𝓐 telling B N G) ≡ given Y
      → X ≡ Y
  join_assoc N M K X Y n m k e f =
      let left = then_given (join 𝓐 telling B N M) (λ (F : NetworkOver 𝓐). join 𝓐 telling B F K) X e in
      let right = then_given (join 𝓐 telling B M K) (λ (G : NetworkOver 𝓐). join 𝓐 telling B N G) Y f in
      sym (ap (λ (F : NetworkOver 𝓐). joining F K) (joined_fitting 𝓐 telling B N M left.0 left.1).1
      ∙ (joined_fitting 𝓐 telling B left.0 K X left.2).1)
      ∙ joining_assoc N M K n.boxes_rise m.boxes_rise k.boxes_rise n.wires_rise m.wires_rise k.wires_rise
      ∙ ap (joining N) (joined_fitting 𝓐 telling B M K right.0 right.1).1
      ∙ (joined_fitting 𝓐 telling B N right.0 Y right.2).1

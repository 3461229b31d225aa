-- Solutions and passing lists of the joint network of two that fit. An own box keeps its wires. An input that the other network owns is assumed
-- to hold what its owner promises, and a solution holds its promises; so due routes agree, and a list that passes maps each box of either network
-- to the same route as in the joint one.
--     first_due, first_solved, first_mapping ..     what the first of two has of the joint network; of the second the same, by the other order
--     joint_solved, joint_entered, joint_passes     both together
use mathlib.Core.Path.{◌≡◌, refl, sym, ap, ◌∙◌, subst}
use mathlib.Core.Bool.{true, false≢true}
use mathlib.Core.Logic.{◌↔◌}
use mathlib.Core.Option.{Option, none, some, get_or}
use mathlib.Core.List.{List, map}
use Prim.Native.Nat.{ℕ}
use Rattle.lists.specs.All.{All}
use Rattle.lists.proofs.All.{all_map, all_both}
use Rattle.lists.specs.Answer.{is_some}
use Rattle.lists.specs.Sorted.{Rises}
use Rattle.lists.specs.Union.{either}
use Rattle.lists.proofs.Sorted.{find_key}
use Rattle.networks.specs.Algebra.{Algebra}
use Rattle.networks.specs.Network.{Own, Input, Box, own, input, Wire, NetworkOver, box_id, is_box, is_own_box, own_boxes, inputs, box, has_box}
use Rattle.networks.specs.Sound.{Bounds, Sound}
use Rattle.networks.specs.Sheets.{RouteList, listed}
use Rattle.networks.specs.Lowest.{Entered}
use Rattle.networks.specs.Solution.{route_of, trans, best_of, due, mapping, Solution, Demands}
use Rattle.networks.specs.Judge.{held, Passes}
use Rattle.networks.specs.Join.{meeting, joining, Fitting}
use Rattle.networks.proofs.Laws.Boxes.{own_found, own_there, input_there}
use Rattle.networks.proofs.Laws.Formed.{sound_formed}
use Rattle.networks.proofs.Laws.Solutions.{holds_assumed, solution_ext}
use Rattle.networks.proofs.Laws.Judging.{own_held, passes_solved}
use Rattle.networks.proofs.Laws.Joins.{own_both, inputs_both, joining_rise, box_joining, joining_own}
use Rattle.networks.proofs.Laws.JointWires.{wires_into_first}
use Rattle.networks.proofs.Laws.Fitted.{promise_assumed, joining_comm, fitting_comm}

module _ (𝓐 : Algebra) where
  open 𝓐 use {Route, Demand, no_route, meets}

  -- Every own box that promises a route holds it.
  abbrev Kept : NetworkOver 𝓐 → (ℕ → Route) → Type 0
  Kept N ℒ = All (λ (b : Own Route Demand). (q : Route) → b.promise ≡ some q → ℒ b.id ≡ q) (own_boxes N)

  -- what the first of two has of the joint network
  module _ (B : Bounds) (N M : NetworkOver 𝓐) (sound : Sound B N) (sound' : Sound B M) (fitting : Fitting 𝓐 B N M) where
    first_due : (ℒ : ℕ → Route) → All (λ (b : Own Route Demand). due 𝓐 (joining N M) ℒ b ≡ due 𝓐 N ℒ b) (own_boxes N)
    unfolding due joining
    first_due ℒ = all_map (own_boxes N) (λ b e. ap (λ (ws : List Wire). best_of 𝓐 b.initial (map (λ (w : Wire). trans 𝓐 N w (ℒ w.from)) ws))
        (wires_into_first B N M sound sound' fitting.own_once b.id (ap is_own_box e))) (own_there N sound.boxes_rise)

    to_first : (Q : Own Route Demand → Type 0) → All Q (own_boxes (joining N M)) → All Q (own_boxes N)
    to_first = joining_own N M sound.boxes_rise sound'.boxes_rise

    -- an input that the other owns holds what its owner promises
    first_assumed : (ℒ : ℕ → Route) → Solution 𝓐 (joining N M) ℒ → All (λ (a : Input Route). ℒ a.id ≡ a.assumed) (inputs N)
    first_assumed ℒ h = all_map (inputs N) (λ a e. go a e (box M a.id) refl) (input_there N sound.boxes_rise)
      where
        at : (a : Input Route) (o : Option (Box Route Demand)) → box N a.id ≡ some (input a) → box M a.id ≡ o
            → box (joining N M) a.id ≡ either meeting (some (input a)) o
        at a o e q = box_joining N M sound.boxes_rise sound'.boxes_rise a.id ∙ rw (e, q) refl

        go : (a : Input Route) → box N a.id ≡ some (input a) → (o : Option (Box Route Demand)) → box M a.id ≡ o → ℒ a.id ≡ a.assumed
        go a e none q = holds_assumed 𝓐 (joining N M) ℒ h a.id a (at a none e q)
        go a e (some (input c)) q = holds_assumed 𝓐 (joining N M) ℒ h a.id a (at a (some (input c)) e q)
        go a e (some (own b)) q =
            ap ℒ (sym (find_key box_id a.id M.boxes (own b) q))
            ∙ own_found (joining N M) (λ (c : Own Route Demand). (r : Route) → c.promise ≡ some r → ℒ c.id ≡ r) a.id b h.equation_8
            (at a (some (own b)) e q) a.assumed (promise_assumed 𝓐 N M fitting.first_matched a.id a e b q)

    first_solved : (ℒ : ℕ → Route) → Solution 𝓐 (joining N M) ℒ → Solution 𝓐 N ℒ
    first_solved ℒ h = record {
      equation_6 = all_map (own_boxes N) (λ b f. f.0 ∙ f.1)
          (all_both _ _ (own_boxes N) (to_first (λ (b : Own Route Demand). ℒ b.id ≡ due 𝓐 (joining N M) ℒ b) h.equation_6) (first_due ℒ));
      equation_7 = first_assumed ℒ h;
      equation_8 = to_first (λ (b : Own Route Demand). (q : Route) → b.promise ≡ some q → ℒ b.id ≡ q) h.equation_8;
    }

    -- where the second's promises are kept, a list maps the first's boxes to the same routes in both
    first_mapping : (L : RouteList Route) → Kept M (held 𝓐 L) → (i : ℕ) → has_box N i ≡ true → mapping 𝓐 (joining N M) L i ≡ mapping 𝓐 N L i
    unfolding mapping
    first_mapping L kept i t =
        ap (λ (o : Option (Box Route Demand)). get_or (route_of L o) no_route) (box_joining N M sound.boxes_rise sound'.boxes_rise i)
        ∙ go (box N i) refl (box M i) refl t
      where
        go : (o : Option (Box Route Demand)) → box N i ≡ o → (p : Option (Box Route Demand)) → box M i ≡ p → is_box o ≡ true
            → get_or (route_of L (either meeting o p)) no_route ≡ get_or (route_of L o) no_route
        go none q p r s = absurd (false≢true s)
        go (some (own b)) q none r s = refl
        go (some (own b)) q (some v) r s = refl
        go (some (input a)) q none r s = refl
        go (some (input a)) q (some (input c)) r s = refl
        go (some (input a)) q (some (own b)) r s =
            own_found M (λ (c : Own Route Demand). (x : Route) → c.promise ≡ some x → held 𝓐 L c.id ≡ x) i b kept r a.assumed
            (promise_assumed 𝓐 N M fitting.first_matched i a q b r)

  -- demands are read at own boxes only
  demands_ext : (N : NetworkOver 𝓐) (ℒ ℳ : ℕ → Route) → Rises box_id 0 N.boxes → ((i : ℕ) → has_box N i ≡ true → ℒ i ≡ ℳ i)
      → Demands 𝓐 N ℒ → Demands 𝓐 N ℳ
  demands_ext N ℒ ℳ rise same h = all_map (own_boxes N) (λ b f. subst (λ (r : Route). meets b.demand r ≡ true) (same b.id (ap is_box f.0)) f.1)
      (all_both _ _ (own_boxes N) (own_there N rise) h)

  -- a promise is kept where a list passes
  passes_kept : (N : NetworkOver 𝓐) (L : RouteList Route) → Rises box_id 0 N.boxes → Passes 𝓐 N L → Kept N (held 𝓐 L)
  passes_kept N L rise passes = all_map (own_boxes N) (λ b f q e. sym f.0 ∙ f.1 q e)
      (all_both _ _ (own_boxes N) (own_held 𝓐 N L rise) ((passes_solved 𝓐 N L rise).0 passes).1.equation_8)

  -- from the joint network to the first
  first_passes : (B : Bounds) (N M : NetworkOver 𝓐) (L : RouteList Route) → Sound B N → Sound B M → Fitting 𝓐 B N M
      → Passes 𝓐 (joining N M) L → Passes 𝓐 N L
  first_passes B N M L sound sound' fitting passes =
      let rise = joining_rise N M sound.boxes_rise sound'.boxes_rise in
      let whole = (passes_solved 𝓐 (joining N M) L rise).0 passes in
      let same = first_mapping B N M sound sound' fitting L (second_kept (passes_kept (joining N M) L rise passes)) in
      (passes_solved 𝓐 N L sound.boxes_rise).1 (
        to_first B N M sound sound' fitting (λ (b : Own Route Demand). is_some (listed L b.id) ≡ true) whole.0,
        solution_ext 𝓐 N (sound_formed B N sound) (mapping 𝓐 (joining N M) L) (mapping 𝓐 N L) same
            (first_solved B N M sound sound' fitting (mapping 𝓐 (joining N M) L) whole.1),
        demands_ext N (mapping 𝓐 (joining N M) L) (mapping 𝓐 N L) sound.boxes_rise same
            (to_first B N M sound sound' fitting (λ (b : Own Route Demand). meets b.demand (mapping 𝓐 (joining N M) L b.id) ≡ true) whole.2),
      )
    where
      second_kept : Kept (joining N M) (held 𝓐 L) → Kept M (held 𝓐 L)
      second_kept h = to_first B M N sound' sound (fitting_comm 𝓐 B N M sound sound' fitting)
          (λ (b : Own Route Demand). (q : Route) → b.promise ≡ some q → held 𝓐 L b.id ≡ q)
          (subst (λ (F : NetworkOver 𝓐). Kept F (held 𝓐 L)) (joining_comm 𝓐 B N M sound sound' fitting) h)

  module _ (B : Bounds) (N M : NetworkOver 𝓐) (sound : Sound B N) (sound' : Sound B M) (fitting : Fitting 𝓐 B N M) where
    fitting' : Fitting 𝓐 B M N
    fitting' = fitting_comm 𝓐 B N M sound sound' fitting

    same : joining N M ≡ joining M N
    same = joining_comm 𝓐 B N M sound sound' fitting

    joint_solution : (ℒ : ℕ → Route) → Solution 𝓐 N ℒ → Solution 𝓐 M ℒ → Solution 𝓐 (joining N M) ℒ
    joint_solution ℒ h k = record {
      equation_6 = own_both N M (λ (b : Own Route Demand). ℒ b.id ≡ due 𝓐 (joining N M) ℒ b)
          (all_map (own_boxes N) (λ b f. f.0 ∙ sym f.1) (all_both _ _ (own_boxes N) h.equation_6 (first_due B N M sound sound' fitting ℒ)))
          (all_map (own_boxes M) (λ b f. f.0 ∙ sym f.1) (all_both _ _ (own_boxes M) k.equation_6 second_due));
      equation_7 = inputs_both N M (λ (a : Input Route). ℒ a.id ≡ a.assumed) h.equation_7 k.equation_7;
      equation_8 = own_both N M (λ (b : Own Route Demand). (q : Route) → b.promise ≡ some q → ℒ b.id ≡ q) h.equation_8 k.equation_8;
    }
      where
        second_due : All (λ (b : Own Route Demand). due 𝓐 (joining N M) ℒ b ≡ due 𝓐 M ℒ b) (own_boxes M)
        second_due = subst (λ (F : NetworkOver 𝓐). All (λ (b : Own Route Demand). due 𝓐 F ℒ b ≡ due 𝓐 M ℒ b) (own_boxes M)) (sym same)
            (first_due B M N sound' sound fitting' ℒ)

    -- of solutions, for any mapping
    pub joint_solved : (ℒ : ℕ → Route) → Solution 𝓐 (joining N M) ℒ ↔ (Solution 𝓐 N ℒ × Solution 𝓐 M ℒ)
    joint_solved ℒ = (
      λ h. (
        first_solved B N M sound sound' fitting ℒ h,
        first_solved B M N sound' sound fitting' ℒ (subst (λ (F : NetworkOver 𝓐). Solution 𝓐 F ℒ) same h),
      ),
      λ h. joint_solution ℒ h.0 h.1,
    )

    pub joint_entered : (entry : ℕ → Option Route) → Entered (joining N M) entry ↔ (Entered N entry × Entered M entry)
    joint_entered entry = (
      λ h. (
        to_first B N M sound sound' fitting has h,
        to_first B M N sound' sound fitting' has (subst (λ (F : NetworkOver 𝓐). Entered F entry) same h),
      ),
      λ h. own_both N M has h.0 h.1,
    )
      where
        has : Own Route Demand → Type 0
        has b = is_some (entry b.id) ≡ true

    both_pass : (L : RouteList Route) → Passes 𝓐 N L → Passes 𝓐 M L → Passes 𝓐 (joining N M) L
    both_pass L p q =
        let first = (passes_solved 𝓐 N L sound.boxes_rise).0 p in
        let second = (passes_solved 𝓐 M L sound'.boxes_rise).0 q in
        (passes_solved 𝓐 (joining N M) L (joining_rise N M sound.boxes_rise sound'.boxes_rise)).1 (
          (joint_entered (listed L)).1 (first.0, second.0),
          joint_solution (mapping 𝓐 (joining N M) L)
              (solution_ext 𝓐 N (sound_formed B N sound) (mapping 𝓐 N L) (mapping 𝓐 (joining N M) L) in_first first.1)
              (solution_ext 𝓐 M (sound_formed B M sound') (mapping 𝓐 M L) (mapping 𝓐 (joining N M) L) in_second second.1),
          own_both N M (λ (b : Own Route Demand). meets b.demand (mapping 𝓐 (joining N M) L b.id) ≡ true)
              (demands_ext N (mapping 𝓐 N L) (mapping 𝓐 (joining N M) L) sound.boxes_rise in_first first.2)
              (demands_ext M (mapping 𝓐 M L) (mapping 𝓐 (joining N M) L) sound'.boxes_rise in_second second.2),
        )
      where
        in_first : (i : ℕ) → has_box N i ≡ true → mapping 𝓐 N L i ≡ mapping 𝓐 (joining N M) L i
        in_first i t = sym (first_mapping B N M sound sound' fitting L (passes_kept M L sound'.boxes_rise q) i t)

        in_second : (i : ℕ) → has_box M i ≡ true → mapping 𝓐 M L i ≡ mapping 𝓐 (joining N M) L i
        in_second i t = sym (first_mapping B M N sound' sound fitting' L (passes_kept N L sound.boxes_rise p) i t)
            ∙ ap (λ (F : NetworkOver 𝓐). mapping 𝓐 F L i) (sym same)

    pub joint_passes : (L : RouteList Route) → Passes 𝓐 (joining N M) L ↔ (Passes 𝓐 N L × Passes 𝓐 M L)
    joint_passes L = (
      λ e. (
        first_passes B N M L sound sound' fitting e,
        first_passes B M N L sound' sound fitting' (subst (λ (F : NetworkOver 𝓐). Passes 𝓐 F L) same e),
      ),
      λ h. both_pass L h.0 h.1,
    )

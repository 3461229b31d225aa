-- The judge's answer, taken apart.
--     mapping_own, mapping_input         what a list maps each box to
--     fault_none, none_fault             no fault at a box is the three facts about it
--     pass_verdict, verdict_pass         a pass is no fault anywhere, with every box counted
--     verdict_found                      a finding is the first fault, with the boxes up to it counted
--     judge_given, passes_solved         the same of the judge's answer
use mathlib.Core.Path.{◌≡◌, refl, sym, ap, ◌∙◌, subst}
use mathlib.Core.Bool.{true, false, not}
use mathlib.Core.Option.{Option, none, some, none-ne-some, some-injective}
use mathlib.Core.Logic.{◌↔◌}
use mathlib.Core.List.{List, [], ◌∷◌}
use Prim.Native.Nat.{ℕ, suc, ◌+◌, ◌≤◌}
use native.Mathlib.Nat.{add-zero, zero-add}
use native.Mathlib.Omega.{arith}
use lib.Dec.{leb}
use lib.ListN.{length}
use borrow.Author.Tests.{not-false, le-leb}
use Rattle.lists.proofs.Test.{cond_off}
use Rattle.lists.specs.All.{All}
use Rattle.lists.proofs.All.{all_map, all_both}
use Rattle.lists.specs.Filter.{filter}
use Rattle.lists.specs.Sorted.{Rises}
use Rattle.lists.proofs.Sorted.{filter_low}
use Rattle.networks.specs.Algebra.{Algebra}
use Rattle.networks.specs.Network.{Own, Input, own, input, Network, box_id, own_boxes, inputs, box}
use Rattle.networks.specs.Sheets.{RouteList, listed}
use Rattle.lists.specs.Answer.{given}
use Rattle.networks.specs.Lowest.{Entered, unentered}
use Rattle.networks.specs.Solution.{due, mapping, Solution, Demands}
use Rattle.networks.specs.Judge.{Finding, Verdict, pass, found, held, breaks, fault, stop, verdict_from, judge, Passes}
use Rattle.networks.proofs.Laws.Boxes.{own_there, input_there}
use Rattle.networks.proofs.Laws.Named.{Named, named_here, named_later}
use Rattle.networks.proofs.Laws.Lowest.{entered_none, none_entered}
use Rattle.lists.proofs.Answer.{given_same, row_given}

module _ (𝓐 : Algebra) where
  open 𝓐 use {Route, Policy, Demand, no_route, same, meets, same_true, same_self}

  unequal : (x y : Route) → not (same x y) ≡ false → x ≡ y
  unequal x y e = same_true x y (not-false (same x y) e)

  equal : (x y : Route) → x ≡ y → not (same x y) ≡ false
  equal x y e = ap not (subst (λ (z : Route). same x z ≡ true) e (same_self x))

  keeps : (p : Option Route) (x : Route) → breaks 𝓐 p x ≡ false → (q : Route) → p ≡ some q → x ≡ q
  keeps none x t q e = absurd (none-ne-some _ e)
  keeps (some y) x t q e = unequal x y t ∙ some-injective _ _ e

  kept : (p : Option Route) (x : Route) → ((q : Route) → p ≡ some q → x ≡ q) → breaks 𝓐 p x ≡ false
  kept none x f = refl
  kept (some y) x f = equal x y (f y refl)

  module _ (N : Network Route Policy Demand) (L : RouteList Route) where
    pub mapping_own : (i : ℕ) (b : Own Route Demand) → box N i ≡ some (own b) → mapping 𝓐 N L i ≡ held 𝓐 L b.id
    unfolding mapping
    mapping_own i b e = rw e refl

    pub mapping_input : (i : ℕ) (a : Input Route) → box N i ≡ some (input a) → mapping 𝓐 N L i ≡ a.assumed
    unfolding mapping
    mapping_input i a e = rw e refl

    -- what is found at a box
    pub fault_none : (b : Own Route Demand) → fault 𝓐 N L b ≡ none
        → (held 𝓐 L b.id ≡ due 𝓐 N (mapping 𝓐 N L) b) × ((q : Route) → b.promise ≡ some q → held 𝓐 L b.id ≡ q)
        × (meets b.demand (held 𝓐 L b.id) ≡ true)
    unfolding fault
    fault_none b e =
        let s = cond_off _ _ _ none (λ z. none-ne-some _ (sym z)) e in
        let t = cond_off _ _ _ none (λ z. none-ne-some _ (sym z)) s.1 in
        let u = cond_off _ _ _ none (λ z. none-ne-some _ (sym z)) t.1 in
        (unequal _ _ s.0, keeps b.promise _ t.0, not-false _ u.0)

    pub none_fault : (b : Own Route Demand) → held 𝓐 L b.id ≡ due 𝓐 N (mapping 𝓐 N L) b
        → ((q : Route) → b.promise ≡ some q → held 𝓐 L b.id ≡ q) → meets b.demand (held 𝓐 L b.id) ≡ true
        → fault 𝓐 N L b ≡ none
    unfolding fault
    none_fault b e f t = rw (equal _ _ e, kept b.promise _ f, t) refl

    -- the verdict
    pub pass_verdict : (c m : ℕ) (bs : List (Own Route Demand)) → verdict_from 𝓐 N L c bs ≡ pass m
        → All (λ (b : Own Route Demand). fault 𝓐 N L b ≡ none) bs × (m ≡ c + length bs)
    unfolding verdict_from
    pass_verdict c m [] e = (tt, let z : m ≡ c = cc in omega arith)
    pass_verdict c m (b ∷ bs) e = go _ (fault 𝓐 N L b) refl e (pass_verdict (suc c) m bs)
      where
        go : (count : ℕ) (o : Option (Finding Route)) → fault 𝓐 N L b ≡ o → stop 𝓐 o b.id count (verdict_from 𝓐 N L (suc c) bs) ≡ pass m
            → (verdict_from 𝓐 N L (suc c) bs ≡ pass m → All (λ (d : Own Route Demand). fault 𝓐 N L d ≡ none) bs × (m ≡ suc c + length bs))
            → ((fault 𝓐 N L b ≡ none) × All (λ (d : Own Route Demand). fault 𝓐 N L d ≡ none) bs) × (m ≡ c + suc (length bs))
        go count none q z r = let s = r z in ((q, s.0), let y : m ≡ suc c + length bs = s.1 in omega arith)
        go count (some f) q z r = absurd (let y : ◌≡◌ {A = ℕ} 0 1 = cc in omega arith)

    pub verdict_pass : (c : ℕ) (bs : List (Own Route Demand)) → All (λ (b : Own Route Demand). fault 𝓐 N L b ≡ none) bs
        → verdict_from 𝓐 N L c bs ≡ pass (c + length bs)
    unfolding verdict_from
    verdict_pass c [] h = ap pass (sym (add-zero c))
    verdict_pass c (b ∷ bs) h = rw h.0 (verdict_pass (suc c) bs h.1 ∙ ap pass (omega arith))

    -- a finding: the first box with a fault, and what it is
    abbrev pub FirstFault : ℕ → Route → ℕ → ℕ → List (Own Route Demand) → Type 1
    FirstFault n r = Named (λ (b : Own Route Demand). fault 𝓐 N L b ≡ some (record { number = n; route = r }))
        (λ (b : Own Route Demand). fault 𝓐 N L b ≡ none)

    pub verdict_found : (n i : ℕ) (r : Route) (c m lo : ℕ) (bs : List (Own Route Demand)) → Rises (λ (b : Own Route Demand). b.id) lo bs
        → verdict_from 𝓐 N L c bs ≡ found n i r m → FirstFault n r i lo bs × (m ≡ c + length (filter (λ (d : Own Route Demand). leb d.id i) bs))
    unfolding verdict_from
    verdict_found n i r c m lo [] h e = absurd (let y : ◌≡◌ {A = ℕ} 0 1 = cc in omega arith)
    verdict_found n i r c m lo (b ∷ bs) h e = go (fault 𝓐 N L b) refl e (verdict_found n i r (suc c) m (suc b.id) bs h.1)
      where
        go : (o : Option (Finding Route)) → fault 𝓐 N L b ≡ o → stop 𝓐 o b.id (suc c) (verdict_from 𝓐 N L (suc c) bs) ≡ found n i r m
            → (verdict_from 𝓐 N L (suc c) bs ≡ found n i r m → FirstFault n r i (suc b.id) bs
            × (m ≡ suc c + length (filter (λ (d : Own Route Demand). leb d.id i) bs)))
            → FirstFault n r i lo (b ∷ bs) × (m ≡ c + length (filter (λ (d : Own Route Demand). leb d.id i) (b ∷ bs)))
        go none q z k =
            let f = k z in
            let y : m ≡ suc c + length (filter (λ (d : Own Route Demand). leb d.id i) bs) = f.1 in
            let l : suc b.id ≤ i = f.0.above in
            (named_later _ _ i lo b bs h q f.0, rw (le-leb b.id i (omega arith)) (omega arith))
        go (some f) q z k =
            let j : b.id ≡ i = cc in
            let y : m ≡ suc c = cc in (
              named_here _ _ i lo b bs h j (q ∙ ap some (λ t. record { number = number_is t; route = route_is t })),
              rw (le-leb b.id i (omega arith), filter_low (λ (d : Own Route Demand). d.id) i (suc b.id) bs (omega arith) h.1) (omega arith),
            )
          where
            number_is : f.number ≡ n
            number_is = cc

            route_is : f.route ≡ r
            route_is = cc

    -- the answer
    pub judge_given : (v : Verdict Route) → judge 𝓐 N L ≡ given v → Entered N (listed L) × (verdict_from 𝓐 N L 0 (own_boxes N) ≡ v)
    unfolding judge
    judge_given v e = let s = row_given 17 (unentered N (listed L)) (given (verdict_from 𝓐 N L 0 (own_boxes N))) v e in
        (none_entered N (listed L) s.0, given_same s.1)

    module _ (rise : Rises box_id 0 N.boxes) where
      pub own_held : All (λ (b : Own Route Demand). mapping 𝓐 N L b.id ≡ held 𝓐 L b.id) (own_boxes N)
      own_held = all_map (own_boxes N) (λ b e. mapping_own b.id b e) (own_there N rise)

      pub solved : All (λ (b : Own Route Demand). fault 𝓐 N L b ≡ none) (own_boxes N) → Solution 𝓐 N (mapping 𝓐 N L) × Demands 𝓐 N (mapping 𝓐 N L)
      solved h = (
        record {
          equation_6 = all_map (own_boxes N) (λ b f. f.0 ∙ (fault_none b f.1).0) facts;
          equation_7 = all_map (inputs N) (λ a e. mapping_input a.id a e) (input_there N rise);
          equation_8 = all_map (own_boxes N) (λ b f q e. f.0 ∙ (fault_none b f.1).1 q e) facts;
        },
        all_map (own_boxes N) (λ b f. rw f.0 (fault_none b f.1).2) facts,
      )
        where
          facts : All (λ (b : Own Route Demand). (mapping 𝓐 N L b.id ≡ held 𝓐 L b.id) × (fault 𝓐 N L b ≡ none)) (own_boxes N)
          facts = all_both _ _ (own_boxes N) own_held h

      faultless : Solution 𝓐 N (mapping 𝓐 N L) → Demands 𝓐 N (mapping 𝓐 N L) → All (λ (b : Own Route Demand). fault 𝓐 N L b ≡ none) (own_boxes N)
      faultless h d = all_map (own_boxes N) (λ b f. none_fault b (sym f.0 ∙ f.1.0) (λ q e. sym f.0 ∙ f.1.1.0 q e)
          (rw f.0 at f.1.1.1))
          (all_both _ _ (own_boxes N) own_held (all_both _ _ (own_boxes N) h.equation_6 (all_both _ _ (own_boxes N) h.equation_8 d)))

      pub passes_solved : Passes 𝓐 N L ↔ (Entered N (listed L) × Solution 𝓐 N (mapping 𝓐 N L) × Demands 𝓐 N (mapping 𝓐 N L))
      unfolding judge
      passes_solved = (
        λ e.
            let g = judge_given (pass (length (own_boxes N))) e in
            let s = solved (pass_verdict 0 (length (own_boxes N)) (own_boxes N) g.1).0 in
            (g.0, s.0, s.1),
        λ h. rw (entered_none N (listed L) h.0) (ap given
            (verdict_pass 0 (own_boxes N) (faultless h.1 h.2) ∙ ap pass (zero-add (length (own_boxes N))))),
      )

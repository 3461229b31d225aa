-- Every route has a trail back to where it started. A due route is the box's own initial one, or a wire supplies it. What a wire supplies costs
-- more than the sender's route, so that going back ends. The own boxes whose routes cost no more than a box's are fewer at each step back
-- (Laws/Ranks.antt): so a trail has no more wires than own boxes.
--     sender_supplies, sender_there                    the box that the trail goes back to
--     lowest_supplier                                  it is the lowest that supplies
--     sender_unstarted, sender_starts, sender_present  the trail stops exactly where a route starts, and there is one all along
--     supplies_falls                                   costs fall
--     trail_falls, trail_distinct, trail_short         every trail: no box twice, and no more wires than own boxes, under any mapping
--     Settled                                          what the trail that is shown rests on
--     sender_falls, along                              what is handed on from the sender holds of every box
--     trail_next, none_alone                           the trail that is shown, box by box (trail_end: Laws/Senders.antt)
--     shown_trail, trail_exists                        it is a trail
--     shown_distinct, shown_short                      as every trail is, also of a box that holds none
--     nowhere                                          nothing comes from nothing
use mathlib.Core.Path.{◌≡◌, refl, sym, ap, ap₂, ◌∙◌, subst}
use mathlib.Core.Bool.{Bool, true, false, cond, true≢false, false≢true}
use mathlib.Core.List.{List, [], ◌∷◌}
use mathlib.Core.Logic.{⊎_elim}
use mathlib.Core.Option.{Option, none, some}
use Prim.Native.Nat.{ℕ, zero, suc, ◌≤◌, ◌<◌}
use native.Mathlib.Omega.{arith}
use lib.ListN.{length}
use Rattle.lists.specs.All.{All, any, Distinct}
use Rattle.lists.proofs.All.{all_map}
use Rattle.lists.proofs.Filter.{any_mapped, first_that_meets}
use Rattle.lists.proofs.Sorted.{find_key, find_all, first_that_lowest}
use Rattle.lists.proofs.Test.{yes_or_no, le_or_lt}
use Rattle.networks.specs.Algebra.{Algebra, Choice, Costs}
use Rattle.networks.specs.Network.{Own, Input, Box, own, input, Wire, NetworkOver, box_id, is_box, is_own_box, own_boxes, inputs, box, has_box, owns, wires_into}
use Rattle.networks.specs.Paper.{edge}
use Rattle.networks.specs.Solution.{trans, offers, due, Solution}
use Rattle.networks.specs.Sound.{Bounds, Joined, Sound}
use Rattle.networks.specs.Trail.{StartedBy, Starts, Supplies, Trail, gives, supplier, stops, sender, behind, trail_behind}
use Rattle.networks.proofs.BestRoute.{due_offered}
use Rattle.networks.proofs.Laws.Boxes.{own_found, input_found, own_there, own_box}
use Rattle.networks.proofs.Laws.Ranks.{rank, rank_within, rank_falls}
use Rattle.networks.proofs.Laws.Senders.{goes_on, supplier_wire, supplier_none, behind_end, behind_next, trail_end}
use Rattle.networks.proofs.Laws.Silence.{best_of_none, trans_none}
use Rattle.networks.proofs.Laws.Solutions.{holds_due, holds_assumed}
use Rattle.networks.proofs.Laws.Wires.{into_rise, into_all, edge_wire, edge_ends, trans_dearer}

module _ (𝓐 : Algebra) {B : Bounds} {N : NetworkOver 𝓐} (sound : Sound B N) (ℒ : ℕ → 𝓐.Route) where
  open 𝓐 use {Route, Demand, no_route, same, same_true, same_self}

  pub sender_supplies : (i j : ℕ) → sender 𝓐 N ℒ i ≡ some j → Supplies 𝓐 N ℒ j i
  sender_supplies i j e =
      let s = supplier_wire 𝓐 N ℒ i j (goes_on 𝓐 N ℒ i j e).1 in
      let f = first_that_meets (λ (w : Wire). (edge N w.from w.to ≡ some w) × (w.to ≡ i)) (gives 𝓐 N ℒ (ℒ i)) (wires_into N i) s.0
      (into_all N (λ (w : Wire). edge N w.from w.to ≡ some w) i (edge_wire N sound.wires_rise)) s.1 in (
        s.0,
        sym (ap₂ (edge N) s.2 f.0.1) ∙ f.0.0,
        ap (λ (k : ℕ). trans 𝓐 N s.0 (ℒ k)) (sym s.2) ∙ sym (same_true _ _ f.1),
      )

  -- the wire of a sender that supplies a box
  supplies_wire : (i j : ℕ) (s : Supplies 𝓐 N ℒ j i) → Joined N s.0 × (s.0.from ≡ j) × (s.0.to ≡ i)
  supplies_wire i j s = edge_ends N (Joined N) j i s.0 sound.wires_joined s.1

  supplied_own : (i j : ℕ) → Supplies 𝓐 N ℒ j i → owns N i ≡ true
  supplied_own i j s = let f = supplies_wire i j s in ap (owns N) (sym f.2) ∙ f.0.to_own

  pub sender_there : (i j : ℕ) → sender 𝓐 N ℒ i ≡ some j → has_box N j ≡ true
  sender_there i j e =
      let f = supplies_wire i j (sender_supplies i j e) in
      ap (has_box N) (sym f.1) ∙ f.0.from_there

  -- no sender with a lower id gives the box what it holds
  lowest_sender : (i j : ℕ) → sender 𝓐 N ℒ i ≡ some j → All (λ (w : Wire). w.from < j → gives 𝓐 N ℒ (ℒ i) w ≡ false) (wires_into N i)
  lowest_sender i j e =
      let s = supplier_wire 𝓐 N ℒ i j (goes_on 𝓐 N ℒ i j e).1 in
      subst (λ (k : ℕ). All (λ (w : Wire). w.from < k → gives 𝓐 N ℒ (ℒ i) w ≡ false) (wires_into N i)) s.2
      (first_that_lowest (λ (w : Wire). w.from) (gives 𝓐 N ℒ (ℒ i)) 0 (wires_into N i) s.0 (into_rise N sound.wires_rise i) s.1)

  pub lowest_supplier : (i j : ℕ) → sender 𝓐 N ℒ i ≡ some j → (k : ℕ) → Supplies 𝓐 N ℒ k i → j ≤ k
  lowest_supplier i j e k s = ⊎_elim (λ (l : j ≤ k). l) (λ (l : k < j). absurd (true≢false (sym given ∙ denied l))) (le_or_lt j k)
    where
      from : s.0.from ≡ k
      from = (supplies_wire i k s).1

      denied : k < j → gives 𝓐 N ℒ (ℒ i) s.0 ≡ false
      denied l = find_all (λ (w : Wire). w.from) (λ (w : Wire). w.from < j → gives 𝓐 N ℒ (ℒ i) w ≡ false) k (wires_into N i) s.0
          (lowest_sender i j e) s.1 (rw from l)

      given : gives 𝓐 N ℒ (ℒ i) s.0 ≡ true
      given = ap (same (ℒ i)) (ap (λ (m : ℕ). trans 𝓐 N s.0 (ℒ m)) from ∙ s.2) ∙ same_self (ℒ i)

  pub sender_unstarted : (i j : ℕ) → sender 𝓐 N ℒ i ≡ some j → Starts 𝓐 N ℒ i → ⊥
  sender_unstarted i j e s = go (box N i) (goes_on 𝓐 N ℒ i j e).0 s
    where
      go : (o : Option (Box Route Demand)) → stops 𝓐 N ℒ o (ℒ i) ≡ false → StartedBy 𝓐 N ℒ o (ℒ i) → ⊥
      go none t z = z
      go (some (input a)) t z = true≢false t
      go (some (own b)) t z = false≢true (sym t ∙ ap (same (ℒ i)) (sym z) ∙ same_self (ℒ i))

  module _ (costs : Costs 𝓐) (lawful : All costs.Lawful N.policies) where
    -- a sender's route costs less than what it supplies
    supplies_falls : (i j : ℕ) → Supplies 𝓐 N ℒ j i → (ℒ i ≡ no_route → ⊥) → costs.cost (ℒ j) < costs.cost (ℒ i)
    supplies_falls i j s present = subst (λ (r : Route). costs.cost (ℒ j) < costs.cost r) s.2
        (trans_dearer 𝓐 costs N lawful s.0 (ℒ j) (λ z. present (sym s.2 ∙ z)))

    module _ (choice : Choice 𝓐) where
      -- who supplies a route holds one: a wire makes nothing out of no route
      supplies_present : (i j : ℕ) → Supplies 𝓐 N ℒ j i → (ℒ i ≡ no_route → ⊥) → ℒ j ≡ no_route → ⊥
      supplies_present i j s present z = present (sym s.2 ∙ ap (trans 𝓐 N s.0) z ∙ trans_none 𝓐 choice N s.0)

      -- every trail of a box that holds a route
      trail_falls : (i : ℕ) (js : List ℕ) → (ℒ i ≡ no_route → ⊥) → Trail 𝓐 N ℒ i js → All (λ (j : ℕ). costs.cost (ℒ j) < costs.cost (ℒ i)) js
      trail_falls i [] present t = tt
      trail_falls i (j ∷ js) present t =
          let l : costs.cost (ℒ j) < costs.cost (ℒ i) = supplies_falls i j t.0 present in
          (l, all_map js (λ k m. omega arith) (trail_falls j js (supplies_present i j t.0 present) t.1))

      pub trail_distinct : (i : ℕ) (js : List ℕ) → (ℒ i ≡ no_route → ⊥) → Trail 𝓐 N ℒ i js → Distinct (i ∷ js)
      trail_distinct i [] present t = (tt, tt)
      trail_distinct i (j ∷ js) present t = (
        all_map (j ∷ js) (λ k l q. let e = ap (λ (m : ℕ). costs.cost (ℒ m)) q in omega arith) (trail_falls i (j ∷ js) present t),
        trail_distinct j js (supplies_present i j t.0 present) t.1,
      )

      trail_rank : (i : ℕ) (js : List ℕ) → (ℒ i ≡ no_route → ⊥) → Trail 𝓐 N ℒ i js → length js ≤ rank 𝓐 N ℒ costs i
      trail_rank i [] present t = omega arith
      trail_rank i (j ∷ js) present t =
          let l = rank_falls 𝓐 N ℒ costs i j (supplied_own i j t.0) (supplies_falls i j t.0 present) in
          let m = trail_rank j js (supplies_present i j t.0 present) t.1 in
          omega arith

      pub trail_short : (i : ℕ) (js : List ℕ) → (ℒ i ≡ no_route → ⊥) → Trail 𝓐 N ℒ i js → length js ≤ length (own_boxes N)
      trail_short i js present t = let l = trail_rank i js present t in let m = rank_within 𝓐 N ℒ costs i in omega arith

  module _ (choice : Choice 𝓐) (solved : Solution 𝓐 N ℒ) where
    -- no route is due only where none starts, and there the trail stops
    sender_present : (i j : ℕ) → sender 𝓐 N ℒ i ≡ some j → ℒ i ≡ no_route → ⊥
    unfolding due
    sender_present i j e absent = go (box N i) refl (goes_on 𝓐 N ℒ i j e).0
      where
        go : (o : Option (Box Route Demand)) → box N i ≡ o → stops 𝓐 N ℒ o (ℒ i) ≡ false → ⊥
        go none q t = true≢false t
        go (some (input a)) q t = true≢false t
        go (some (own b)) q t =
            let start = (best_of_none 𝓐 choice b.initial (offers 𝓐 N ℒ b.id) (sym (holds_due 𝓐 N ℒ solved i b q) ∙ absent)).0 in
            false≢true (sym t ∙ ap₂ same absent start ∙ same_self no_route)

    -- an own box that no wire supplies holds its initial route
    unsupplied : (i : ℕ) (b : Own Route Demand) → box N i ≡ some (own b) → supplier 𝓐 N ℒ i ≡ none → ℒ i ≡ b.initial
    unsupplied i b q e = ⊎_elim (λ (s : due 𝓐 N ℒ b ≡ b.initial). held ∙ s)
        (λ (s : any (same (due 𝓐 N ℒ b)) (offers 𝓐 N ℒ b.id) ≡ true). absurd (true≢false (sym s ∙ offered ∙ supplier_none 𝓐 N ℒ i e)))
        (due_offered 𝓐 choice N ℒ b)
      where
        held : ℒ i ≡ due 𝓐 N ℒ b
        held = holds_due 𝓐 N ℒ solved i b q

        offered : any (same (due 𝓐 N ℒ b)) (offers 𝓐 N ℒ b.id) ≡ any (gives 𝓐 N ℒ (ℒ i)) (wires_into N i)
        offered = ap₂ (λ (r : Route) (k : ℕ). any (same r) (offers 𝓐 N ℒ k)) (sym held) (find_key box_id i N.boxes (own b) q)
            ∙ any_mapped (same (ℒ i)) (λ (w : Wire). trans 𝓐 N w (ℒ w.from)) (wires_into N i)

    pub sender_starts : (i : ℕ) → has_box N i ≡ true → sender 𝓐 N ℒ i ≡ none → Starts 𝓐 N ℒ i
    unfolding sender
    sender_starts i t e = go (box N i) refl t e
      where
        initial : (b : Own Route Demand) → box N i ≡ some (own b) → (s : Bool) → same (ℒ i) b.initial ≡ s → cond s none (supplier 𝓐 N ℒ i) ≡ none
            → ℒ i ≡ b.initial
        initial b q true r z = same_true (ℒ i) b.initial r
        initial b q false r z = unsupplied i b q z

        go : (o : Option (Box Route Demand)) → box N i ≡ o → is_box o ≡ true → cond (stops 𝓐 N ℒ o (ℒ i)) none (supplier 𝓐 N ℒ i) ≡ none
            → StartedBy 𝓐 N ℒ o (ℒ i)
        go none q s z = false≢true s
        go (some (input a)) q s z = holds_assumed 𝓐 N ℒ solved i a q
        go (some (own b)) q s z = initial b q (same (ℒ i) b.initial) refl z

-- a sound network whose policies are lawful, under a mapping that solves its equations
pub record Settled (𝓐 : Algebra) (B : Bounds) (N : NetworkOver 𝓐) (ℒ : ℕ → 𝓐.Route) : Type 1 where
  pub sound : Sound B N
  pub choice : Choice 𝓐
  pub solved : Solution 𝓐 N ℒ
  pub costs : Costs 𝓐
  pub lawful : All costs.Lawful N.policies

module _ {𝓐 : Algebra} {B : Bounds} {N : NetworkOver 𝓐} {ℒ : ℕ → 𝓐.Route} (s : Settled 𝓐 B N ℒ) where
  open 𝓐 use {Route, Demand, no_route, same, same_true, same_self}

  abbrev cost : ℕ → ℕ
  cost i = s.costs.cost (ℒ i)

  abbrev rank_of : ℕ → ℕ
  rank_of = rank 𝓐 N ℒ s.costs

  supplied : (i j : ℕ) → sender 𝓐 N ℒ i ≡ some j → Supplies 𝓐 N ℒ j i
  supplied = sender_supplies 𝓐 s.sound ℒ

  present_at : (i j : ℕ) → sender 𝓐 N ℒ i ≡ some j → ℒ i ≡ no_route → ⊥
  present_at = sender_present 𝓐 s.sound ℒ s.choice s.solved

  pub sender_falls : (i j : ℕ) → sender 𝓐 N ℒ i ≡ some j → cost j < cost i
  sender_falls i j e = supplies_falls 𝓐 s.sound ℒ s.costs s.lawful i j (supplied i j e) (present_at i j e)

  -- what holds where the trail stops, and of a box where it holds of the one that the trail goes back to, holds of every box
  pub along : (P : ℕ → Type 0) → ((i : ℕ) → sender 𝓐 N ℒ i ≡ none → P i) → ((i j : ℕ) → sender 𝓐 N ℒ i ≡ some j → P j → P i) → (i : ℕ) → P i
  along P stop on i = below (suc (cost i)) i (omega arith)
    where
      below : (n k : ℕ) → cost k < n → P k
      below zero k l = absurd (omega arith)
      below (suc n) k l = go (sender 𝓐 N ℒ k) refl (below n)
        where
          go : (o : Option ℕ) → sender 𝓐 N ℒ k ≡ o → ((m : ℕ) → cost m < n → P m) → P k
          go none q r = stop k q
          go (some m) q r = on k m q (r m (let f = sender_falls k m q in omega arith))

  sender_rank : (i j : ℕ) → sender 𝓐 N ℒ i ≡ some j → rank_of j < rank_of i
  sender_rank i j e = rank_falls 𝓐 N ℒ s.costs i j (supplied_own 𝓐 s.sound ℒ i j (supplied i j e)) (sender_falls i j e)

  -- where the rank is not over the number of wires, one wire more changes nothing
  behind_more : (i n : ℕ) → rank_of i ≤ n → behind 𝓐 N ℒ (suc n) i ≡ behind 𝓐 N ℒ n i
  behind_more = along (λ (i : ℕ). (n : ℕ) → rank_of i ≤ n → behind 𝓐 N ℒ (suc n) i ≡ behind 𝓐 N ℒ n i)
      (λ i q n l. behind_end 𝓐 N ℒ (suc n) i q ∙ sym (behind_end 𝓐 N ℒ n i q)) on
    where
      on : (i j : ℕ) → sender 𝓐 N ℒ i ≡ some j → ((n : ℕ) → rank_of j ≤ n → behind 𝓐 N ℒ (suc n) j ≡ behind 𝓐 N ℒ n j)
          → (n : ℕ) → rank_of i ≤ n → behind 𝓐 N ℒ (suc n) i ≡ behind 𝓐 N ℒ n i
      on i j q r zero l = absurd (let k = sender_rank i j q in omega arith)
      on i j q r (suc n) l = behind_next 𝓐 N ℒ (suc n) i j q ∙ ap (◌∷◌ j) (r n (let k = sender_rank i j q in omega arith))
          ∙ sym (behind_next 𝓐 N ℒ n i j q)

  enough : (n i j : ℕ) → sender 𝓐 N ℒ i ≡ some j → rank_of i ≤ n → behind 𝓐 N ℒ n i ≡ j ∷ behind 𝓐 N ℒ n j
  enough zero i j q l = absurd (let k = sender_rank i j q in omega arith)
  enough (suc n) i j q l = behind_next 𝓐 N ℒ n i j q ∙ ap (◌∷◌ j) (sym (behind_more j n (let k = sender_rank i j q in omega arith)))

  pub trail_next : (i j : ℕ) → sender 𝓐 N ℒ i ≡ some j → trail_behind 𝓐 N ℒ i ≡ j ∷ trail_behind 𝓐 N ℒ j
  unfolding trail_behind
  trail_next i j e = enough (length (own_boxes N)) i j e (rank_within 𝓐 N ℒ s.costs i)

  pub none_alone : (i : ℕ) → ℒ i ≡ no_route → trail_behind 𝓐 N ℒ i ≡ []
  none_alone i absent = go (sender 𝓐 N ℒ i) refl
    where
      go : (o : Option ℕ) → sender 𝓐 N ℒ i ≡ o → trail_behind 𝓐 N ℒ i ≡ []
      go none q = trail_end 𝓐 N ℒ i q
      go (some j) q = absurd (present_at i j q absent)

  -- the trail that is shown is one
  box_trail : (i : ℕ) → has_box N i ≡ true → Trail 𝓐 N ℒ i (trail_behind 𝓐 N ℒ i)
  box_trail = along (λ (i : ℕ). has_box N i ≡ true → Trail 𝓐 N ℒ i (trail_behind 𝓐 N ℒ i))
      (λ i q t. rw (trail_end 𝓐 N ℒ i q) (sender_starts 𝓐 s.sound ℒ s.choice s.solved i t q))
      (λ i j q r t. rw (trail_next i j q) (supplied i j q, r (sender_there 𝓐 s.sound ℒ i j q)))

  pub shown_trail : (i : ℕ) → owns N i ≡ true → Trail 𝓐 N ℒ i (trail_behind 𝓐 N ℒ i)
  shown_trail i t = box_trail i (own_box N i t)

  pub trail_exists : (i : ℕ) → owns N i ≡ true → (js : List ℕ) × Trail 𝓐 N ℒ i js
  trail_exists i t = (trail_behind 𝓐 N ℒ i, shown_trail i t)

  -- a box holds none, and its trail is itself alone, or holds a route
  alone_or : (P : List ℕ → Type 0) (i : ℕ) → P [] → ((ℒ i ≡ no_route → ⊥) → P (trail_behind 𝓐 N ℒ i)) → P (trail_behind 𝓐 N ℒ i)
  alone_or P i alone held = ⊎_elim (λ (e : same (ℒ i) no_route ≡ true). rw (none_alone i (same_true (ℒ i) no_route e)) alone)
      (λ (e : same (ℒ i) no_route ≡ false). held (λ z. true≢false (sym (ap (λ (r : Route). same r no_route) z ∙ same_self no_route) ∙ e)))
      (yes_or_no (same (ℒ i) no_route))

  pub shown_distinct : (i : ℕ) → owns N i ≡ true → Distinct (i ∷ trail_behind 𝓐 N ℒ i)
  shown_distinct i t = alone_or (λ (js : List ℕ). Distinct (i ∷ js)) i (tt, tt)
      (λ present. trail_distinct 𝓐 s.sound ℒ s.costs s.lawful s.choice i (trail_behind 𝓐 N ℒ i) present (shown_trail i t))

  pub shown_short : (i : ℕ) → owns N i ≡ true → length (trail_behind 𝓐 N ℒ i) ≤ length (own_boxes N)
  shown_short i t = alone_or (λ (js : List ℕ). length js ≤ length (own_boxes N)) i (omega arith)
      (λ present. trail_short 𝓐 s.sound ℒ s.costs s.lawful s.choice i (trail_behind 𝓐 N ℒ i) present (shown_trail i t))

  -- where no box starts with a route and none is assumed
  module _ (starts : All (λ (b : Own Route Demand). b.initial ≡ no_route) (own_boxes N))
      (assumed : All (λ (a : Input Route). a.assumed ≡ no_route) (inputs N)) where
    start_none : (i : ℕ) → Starts 𝓐 N ℒ i → ℒ i ≡ no_route
    start_none i t = go (box N i) refl t
      where
        go : (o : Option (Box Route Demand)) → box N i ≡ o → StartedBy 𝓐 N ℒ o (ℒ i) → ℒ i ≡ no_route
        go none q z = absurd z
        go (some (own b)) q z = z ∙ own_found N (λ (c : Own Route Demand). c.initial ≡ no_route) i b starts q
        go (some (input a)) q z = z ∙ input_found N (λ (c : Input Route). c.assumed ≡ no_route) i a assumed q

    -- a trail's last box holds none, and so does every box before it
    trail_none : (i : ℕ) (js : List ℕ) → Trail 𝓐 N ℒ i js → ℒ i ≡ no_route
    trail_none i [] t = start_none i t
    trail_none i (j ∷ js) t = sym t.0.2 ∙ ap (trans 𝓐 N t.0.0) (trail_none j js t.1) ∙ trans_none 𝓐 s.choice N t.0.0

    pub nowhere : All (λ (b : Own Route Demand). ℒ b.id ≡ no_route) (own_boxes N)
    nowhere = all_map (own_boxes N) (λ b e. trail_none b.id (trail_behind 𝓐 N ℒ b.id) (shown_trail b.id (ap is_own_box e)))
        (own_there N s.sound.boxes_rise)

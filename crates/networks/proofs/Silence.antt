-- What a pass carried. Silence passes exactly where nothing starts, gets in, is promised or is asked for; what is asked for is carried; and
-- counts of own boxes add up over fragments, since each own box is in one fragment and keeps its id and its demand there.
--     silence_passes, silent_list_passes, empty_pass     the list that holds no route anywhere
--     holding_none, quiet_counts, counts_quiet           what a census says of such a pass
--     asked_hold, none_silent, asked_holding             demands to hold a route
--     told_silent, accounted                             demands to hold none, and whose silence is left
--     silent_part, census_adds_up, cut_adds_up           fragments and whole
use mathlib.Core.Path.{◌≡◌, refl, sym, ap, ◌∙◌, fun_ext}
use mathlib.Core.Bool.{Bool, true, false, cond, not, false≢true}
use mathlib.Core.Logic.{◌↔◌}
use mathlib.Core.List.{List, [], ◌∷◌, map, map-map}
use mathlib.Core.Option.{Option, none, some, get_or}
use Prim.Native.Nat.{ℕ, ◌+◌, ◌≤◌, ◌<◌}
use native.Mathlib.Omega.{arith}
use lib.Dec.{eqb}
use lib.ListN.{length, length-map}
use borrow.Author.Tests.{not-true, not-false}
use Rattle.lists.specs.All.{All, any}
use Rattle.lists.proofs.All.{all_map, all_both, all_of}
use Rattle.lists.specs.Answer.{Answer, given, and_then, is_some, row}
use Rattle.lists.specs.Filter.{filter}
use Rattle.lists.proofs.Filter.{filter_congr, filter_filter, filter_all, filter_none, all_filter, all_filter_map, filter_map_all, filter_swap, filter_mapped, length_none, length_within, length_split}
use Rattle.lists.specs.Test.{first_applying}
use Rattle.lists.proofs.Test.{and_absorb}
use Rattle.networks.specs.Algebra.{Algebra, Choice}
use Rattle.networks.specs.Network.{Own, Input, NetworkOver, own_boxes, inputs}
use Rattle.networks.specs.Sound.{Bounds, Sound}
use Rattle.networks.specs.Sheets.{Sheet, RouteList, number, listed}
use Rattle.networks.specs.Solution.{trans, mapping}
use Rattle.networks.specs.Judge.{pass, held, Passes}
use Rattle.networks.specs.Cut.{only, promising_own, fragment, numbered, Cuts}
use Rattle.networks.specs.Counts.{sum}
use Rattle.networks.specs.Silence.{Asking, Census, nobody, taken, AddsUp, is_route, silent, overlooked, promises_in, census, told, census_in}
use Rattle.networks.specs.Silence.{Empty, ListsNone, silent_list, Quiet}
use Rattle.networks.proofs.Laws.Counts.{sum_numbers}
use Rattle.networks.proofs.Laws.Boxes.{input_there}
use Rattle.networks.proofs.Laws.Cutting.{cut_answer_lem, cuts_fits}
use Rattle.networks.proofs.Laws.Formed.{Formed, sound_formed}
use Rattle.networks.proofs.Laws.Judging.{mapping_input, fault_none, pass_verdict, judge_given}
use Rattle.networks.proofs.Laws.Pieces.{own_boxes_fragment}
use Rattle.networks.proofs.Laws.Silence.{listed_silent, trans_none, own_none, eaten_crossed, crossed_eaten, crossed_due, due_crossed}
use Rattle.networks.proofs.Passing.{passing}

-- the list that holds no route anywhere
module _ (𝓐 : Algebra) (choice : Choice 𝓐) (asking : Asking 𝓐) (B : Bounds) (N : NetworkOver 𝓐) (sound : Sound B N) where
  open 𝓐 use {Route, Demand, no_route, same_true, same_self}

  formed : Formed N
  formed = sound_formed B N sound

  module _ (L : RouteList Route) (none_listed : ListsNone 𝓐 N L) where
    held_none : All (λ (b : Own Route Demand). mapping 𝓐 N L b.id ≡ no_route) (own_boxes N)
    held_none = own_none 𝓐 choice N formed L none_listed

    passed_quiet : Passes 𝓐 N L → Quiet 𝓐 N asking
    passed_quiet p =
        let h = (passing 𝓐 B N L sound).0 p in
        let d = due_crossed 𝓐 choice N formed L none_listed
        (all_map (own_boxes N) (λ b f. sym f.1 ∙ f.0) (all_both _ _ (own_boxes N) held_none h.1.equation_6)) in
        record {
          starts = d.0;
          eaten = crossed_eaten 𝓐 choice N formed L none_listed d.1;
          promises = all_filter_map (λ (q : Route). q ≡ no_route) _ (own_boxes N)
              (all_map (own_boxes N) (λ b f q e. sym (f.1 q e) ∙ f.0) (all_both _ _ (own_boxes N) held_none h.1.equation_8));
          demands = all_map (own_boxes N) (λ b f. not-true _ (sym (asking.none_meets b.demand) ∙ rw f.0 at f.1))
              (all_both _ _ (own_boxes N) held_none h.2);
        }

    quiet_passed : Quiet 𝓐 N asking → Passes 𝓐 N L
    quiet_passed q = (passing 𝓐 B N L sound).1 (
      all_map (own_boxes N) (λ b e. ap is_some e) none_listed,
      record {
        equation_6 = all_map (own_boxes N) (λ b f. f.0 ∙ sym f.1) (all_both _ _ (own_boxes N) held_none
            (crossed_due 𝓐 choice N formed L none_listed q.starts (eaten_crossed 𝓐 choice N formed L none_listed q.eaten)));
        equation_7 = all_map (inputs N) (λ a e. mapping_input 𝓐 N L a.id a e) (input_there N sound.boxes_rise);
        equation_8 = all_map (own_boxes N) (λ b f r e. f.0 ∙ sym (f.1 r e))
            (all_both _ _ (own_boxes N) held_none (filter_map_all (λ (r : Route). r ≡ no_route) _ (own_boxes N) q.promises));
      },
      all_map (own_boxes N) (λ b f. rw f.0 (asking.none_meets b.demand ∙ ap not f.1)) (all_both _ _ (own_boxes N) held_none q.demands),
    )

    pub silence_passes : Passes 𝓐 N L ↔ Quiet 𝓐 N asking
    silence_passes = (passed_quiet, quiet_passed)

  pub silent_list_passes : Passes 𝓐 N (silent_list 𝓐 N) ↔ Quiet 𝓐 N asking
  silent_list_passes = silence_passes (silent_list 𝓐 N) (listed_silent 𝓐 N sound.boxes_rise)

  -- an own box that is silent on a pass has an entry, and it is no route
  entered_none : (o : Option Route) → is_some o ≡ true → 𝓐.same (get_or o no_route) no_route ≡ true → o ≡ some no_route
  entered_none none t e = absurd (false≢true t)
  entered_none (some r) t e = ap some (same_true r no_route e)

  -- so whether there can be an empty pass is the network's matter
  pub empty_pass : (L : RouteList Route) → (Passes 𝓐 N L × Empty 𝓐 N L) ↔ (ListsNone 𝓐 N L × Quiet 𝓐 N asking)
  empty_pass L = (
    λ h.
        let none_listed : ListsNone 𝓐 N L = all_map (own_boxes N) (λ b f. entered_none (listed L b.id) f.0 f.1)
        (all_both _ _ (own_boxes N) ((passing 𝓐 B N L sound).0 h.0).0 h.1) in
        (none_listed, passed_quiet L none_listed h.0),
    λ h. (
      quiet_passed L h.0 h.1,
      all_map (own_boxes N) (λ b e. ap (λ (o : Option Route). 𝓐.same (get_or o no_route) no_route) e ∙ same_self no_route) h.0,
    ),
  )

-- what a pass carried
module _ (𝓐 : Algebra) (asking : Asking 𝓐) (N : NetworkOver 𝓐) (L : RouteList 𝓐.Route) where
  open 𝓐 use {Route, Demand, no_route, meets, same_true, same_self}

  pub holding_none : ((census 𝓐 N asking L).holding ≡ 0) ↔ Empty 𝓐 N L
  unfolding census
  holding_none = let c = length_none (λ (b : Own Route Demand). not (silent 𝓐 L b)) (own_boxes N) in (
    λ e. all_map (own_boxes N) (λ b t. not-false (silent 𝓐 L b) t) (c.0 e),
    λ h. c.1 (all_map (own_boxes N) (λ b t. ap not t) h),
  )

  -- where silence passes, no route is promised and none has to be held, so that both counts are 0
  pub quiet_counts : Quiet 𝓐 N asking → ((census 𝓐 N asking L).promised ≡ 0) × ((census 𝓐 N asking L).asked ≡ 0)
  unfolding census
  quiet_counts q = (
    (length_none (is_route 𝓐) (promises_in 𝓐 N)).1 (all_map (promises_in 𝓐 N) (λ r e. rw e (ap not (same_self no_route))) q.promises),
    (length_none (λ (b : Own Route Demand). asking.asks_route b.demand) (own_boxes N)).1 q.demands,
  )

  -- and back, where no route is assumed either and none starts
  pub counts_quiet : Choice 𝓐 → All (λ (b : Own Route Demand). b.initial ≡ no_route) (own_boxes N)
      → (census 𝓐 N asking L).assumed ≡ 0 → (census 𝓐 N asking L).promised ≡ 0 → (census 𝓐 N asking L).asked ≡ 0 → Quiet 𝓐 N asking
  unfolding census
  counts_quiet choice starts assumed promised asked = record {
    starts = starts;
    eaten = all_map (inputs N) (λ a t. all_of N.wires (λ w e. ap (trans 𝓐 N w) (no_route_lem t) ∙ trans_none 𝓐 choice N w))
        ((length_none (λ (a : Input Route). is_route 𝓐 a.assumed) (inputs N)).0 assumed);
    promises = all_map (promises_in 𝓐 N) (λ r t. no_route_lem t) ((length_none (is_route 𝓐) (promises_in 𝓐 N)).0 promised);
    demands = (length_none (λ (b : Own Route Demand). asking.asks_route b.demand) (own_boxes N)).0 asked;
  }
    where
      no_route_lem : {r : Route} → is_route 𝓐 r ≡ false → r ≡ no_route
      no_route_lem {r} t = same_true r no_route (not-false (𝓐.same r no_route) t)

  module _ (passes : Passes 𝓐 N L) where
    met : All (λ (b : Own Route Demand). meets b.demand (held 𝓐 L b.id) ≡ true) (own_boxes N)
    met = all_map (own_boxes N) (λ b e. (fault_none 𝓐 N L b e).2)
        (pass_verdict 𝓐 N L 0 (length (own_boxes N)) (own_boxes N) (judge_given 𝓐 N L (pass (length (own_boxes N))) passes).1).0

    -- a box that has to hold a route holds one
    pub asked_hold : All (λ (b : Own Route Demand). asking.asks_route b.demand ≡ true → silent 𝓐 L b ≡ false) (own_boxes N)
    asked_hold = all_map (own_boxes N) (λ b m t. at b m t (silent 𝓐 L b) refl) met
      where
        at : (b : Own Route Demand) → meets b.demand (held 𝓐 L b.id) ≡ true → asking.asks_route b.demand ≡ true
            → (s : Bool) → silent 𝓐 L b ≡ s → s ≡ false
        at b m t false q = refl
        at b m t true q = sym m ∙ ap (meets b.demand) (same_true (held 𝓐 L b.id) no_route q) ∙ asking.none_meets b.demand ∙ ap not t

    -- so where every own box has to, none is silent
    pub none_silent : All (λ (b : Own Route Demand). asking.asks_route b.demand ≡ true) (own_boxes N)
        → All (λ (b : Own Route Demand). silent 𝓐 L b ≡ false) (own_boxes N)
    none_silent asked = all_map (own_boxes N) (λ b f. f.0 f.1) (all_both _ _ (own_boxes N) asked_hold asked)

    pub asked_holding : (census 𝓐 N asking L).asked ≤ (census 𝓐 N asking L).holding
    unfolding census
    asked_holding = length_within _ _ (own_boxes N) (all_map (own_boxes N) (λ b f t. ap not (f t)) asked_hold)

    -- a box that has to hold none is silent
    pub told_silent : All (λ (b : Own Route Demand). asking.asks_none b.demand ≡ true → silent 𝓐 L b ≡ true) (own_boxes N)
    told_silent = all_map (own_boxes N) (λ b m t. sym (asking.none_alone b.demand (held 𝓐 L b.id) t) ∙ m) met

    -- so each own box holds a route, or has to hold none, or is one that the census names
    pub accounted : (census 𝓐 N asking L).boxes
        ≡ (census 𝓐 N asking L).holding + told 𝓐 N asking + length (census 𝓐 N asking L).silent
    unfolding census
    accounted =
        let asks : Own Route Demand → Bool = λ b. asking.asks_none b.demand in
        let quiet : List (Own Route Demand) = filter (silent 𝓐 L) (own_boxes N) in
        let all = length_split (silent 𝓐 L) (own_boxes N) in
        let none_held = length_split asks quiet in
        let e = ap length (filter_filter (silent 𝓐 L) asks (own_boxes N)
        ∙ filter_congr _ asks (own_boxes N) (all_map (own_boxes N) (λ b f. and_absorb (silent 𝓐 L b) (asks b) f) told_silent)) in
        let f = ap length (filter_filter (silent 𝓐 L) (λ b. not (asks b)) (own_boxes N)) in
        let g = length-map (filter (overlooked 𝓐 asking L) (own_boxes N)) (λ (b : Own Route Demand). b.id) in
        omega arith

-- fragments and whole, whatever the notes
module _ (𝓐 : Algebra) (asking : Asking 𝓐) (N : NetworkOver 𝓐) (S : Sheet 𝓐.Route) (L : RouteList 𝓐.Route) where
  open 𝓐 use {Route, Demand}

  -- a fragment's own boxes that meet a test of id and demand
  part : (p : Own Route Demand → Bool) → ((b : Own Route Demand) → p (promising_own N S b) ≡ p b) → (k : ℕ)
      → filter p (own_boxes (fragment N S k)) ≡ map (promising_own N S) (filter (numbered N S k) (filter p (own_boxes N)))
  part p same k =
      ap (filter p) (own_boxes_fragment N S (only k))
      ∙ filter_mapped (promising_own N S) p (filter (numbered N S k) (own_boxes N))
      ∙ ap (map (promising_own N S)) (filter_congr _ p (filter (numbered N S k) (own_boxes N)) (all_of (filter (numbered N S k) (own_boxes N)) same)
      ∙ filter_swap (numbered N S k) p (own_boxes N))

  -- the boxes that the census of a fragment names are those of the whole's that are in it
  pub silent_part : (k : ℕ) → (census 𝓐 (fragment N S k) asking L).silent
      ≡ filter (λ (i : ℕ). eqb (number S i) k) (census 𝓐 N asking L).silent
  unfolding census
  silent_part k = ap (map (λ (b : Own Route Demand). b.id)) (part (overlooked 𝓐 asking L) (λ b. refl) k)
      ∙ map-map (λ (b : Own Route Demand). b.id) (promising_own N S) (filter (numbered N S k) (filter (overlooked 𝓐 asking L) (own_boxes N)))
      ∙ sym (filter_mapped (λ (b : Own Route Demand). b.id) (λ (i : ℕ). eqb (number S i) k) (filter (overlooked 𝓐 asking L) (own_boxes N)))

  module _ (n : ℕ) (low : All (λ (b : Own Route Demand). number S b.id < n) (own_boxes N)) where
    -- the same of how many they are
    part_count : (p : Own Route Demand → Bool) → ((b : Own Route Demand) → p (promising_own N S b) ≡ p b)
        → sum (λ (k : ℕ). length (filter p (own_boxes (fragment N S k)))) n ≡ length (filter p (own_boxes N))
    part_count p same = ap (λ (f : ℕ → ℕ). sum f n) (fun_ext (λ k. ap length (part p same k)
        ∙ length-map (filter (numbered N S k) (filter p (own_boxes N))) (promising_own N S)))
        ∙ sum_numbers (λ (b : Own Route Demand). number S b.id) n (filter p (own_boxes N))
        (all_filter (λ (b : Own Route Demand). number S b.id < n) p (own_boxes N) (all_map (own_boxes N) (λ b l t. l) low))

    -- and the census of the fragments themselves
    pub census_adds_up : AddsUp (λ (k : ℕ). census 𝓐 (fragment N S k) asking L) n (census 𝓐 N asking L)
    unfolding census
    census_adds_up = record {
      boxes = ap (λ (f : ℕ → ℕ). sum f n) (fun_ext (λ k. sym (ap length (everyone (fragment N S k)))))
          ∙ part_count (λ b. true) (λ b. refl) ∙ ap length (everyone N);
      holding = part_count (λ b. not (silent 𝓐 L b)) (λ b. refl);
      asked = part_count (λ b. asking.asks_route b.demand) (λ b. refl);
      silent = ap (λ (f : ℕ → ℕ). sum f n) (fun_ext (λ k. named (fragment N S k)))
          ∙ part_count (overlooked 𝓐 asking L) (λ b. refl) ∙ sym (named N);
    }
      where
        everyone : (M : NetworkOver 𝓐) → filter (λ (b : Own Route Demand). true) (own_boxes M) ≡ own_boxes M
        everyone M = filter_all (λ (b : Own Route Demand). true) (own_boxes M) (all_of (own_boxes M) (λ b. refl))

        named : (M : NetworkOver 𝓐) → length (map (λ (b : Own Route Demand). b.id) (filter (overlooked 𝓐 asking L) (own_boxes M)))
            ≡ length (filter (overlooked 𝓐 asking L) (own_boxes M))
        named M = length-map (filter (overlooked 𝓐 asking L) (own_boxes M)) (λ (b : Own Route Demand). b.id)

    -- the same of the fragments that the cutter gives; one that it does not give has no own box
    module _ (B : Bounds) (sound : Sound B N) (cuts : Cuts 𝓐 N S) where
      given_part : (count : Census → ℕ) → ((k : ℕ) → own_boxes (fragment N S k) ≡ [] → count nobody ≡ count (census 𝓐 (fragment N S k) asking L))
          → (k : ℕ) → count (census_in 𝓐 N S asking L k) ≡ count (census 𝓐 (fragment N S k) asking L)
      given_part count empty k = ap in_part (cut_answer_lem 𝓐 N S ((cuts_fits 𝓐 N S B sound).0 cuts) k) ∙ go (any (numbered N S k) (own_boxes N)) refl
        where
          in_part : Answer (NetworkOver 𝓐) → ℕ
          in_part a = count (taken (and_then a (λ (F : NetworkOver 𝓐). given (census 𝓐 F asking L))))

          go : (t : Bool) → any (numbered N S k) (own_boxes N) ≡ t
              → in_part (first_applying (row 18 (cond t none (some k)) ∷ []) (given (fragment N S k))) ≡ count (census 𝓐 (fragment N S k) asking L)
          go true q = refl
          go false q = empty k (own_boxes_fragment N S (only k) ∙ ap (map (promising_own N S)) (filter_none (numbered N S k) (own_boxes N) q))

      pub cut_adds_up : AddsUp (census_in 𝓐 N S asking L) n (census 𝓐 N asking L)
      unfolding census
      cut_adds_up = record {
        boxes = added (λ c. c.boxes) (λ k e. rw e refl) ∙ census_adds_up.boxes;
        holding = added (λ c. c.holding) (λ k e. rw e refl) ∙ census_adds_up.holding;
        asked = added (λ c. c.asked) (λ k e. rw e refl) ∙ census_adds_up.asked;
        silent = added (λ c. length c.silent) (λ k e. rw e refl) ∙ census_adds_up.silent;
      }
        where
          added : (count : Census → ℕ) → ((k : ℕ) → own_boxes (fragment N S k) ≡ [] → count nobody ≡ count (census 𝓐 (fragment N S k) asking L))
              → sum (λ (k : ℕ). count (census_in 𝓐 N S asking L k)) n ≡ sum (λ (k : ℕ). count (census 𝓐 (fragment N S k) asking L)) n
          added count empty = ap (λ (f : ℕ → ℕ). sum f n) (fun_ext (given_part count empty))

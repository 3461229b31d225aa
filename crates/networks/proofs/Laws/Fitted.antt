-- Two networks that are joined: the answer taken apart, and what the two then have.
--     joined_fitting                              what is given is the joint network of two that fit
--     promise_assumed, assumed_once               an owner promises what is assumed of its box; two assume the same of one
--     boxes_comm, joining_swap, fitting_comm ..   in either order
--     joining_sound                               the joint network is sound
use mathlib.Core.Path.{◌≡◌, refl, sym, ap, ◌∙◌, subst}
use mathlib.Core.Bool.{cond, true, ◌||◌, false≢true}
use mathlib.Core.Option.{none, some}
use mathlib.Core.List.{List}
use Prim.Native.Nat.{ℕ, ◌≤◌, ◌<◌}
use native.Mathlib.Omega.{arith}
use lib.Dec.{eqb}
use lib.ListN.{length}
use Rattle.lists.specs.All.{all_alike}
use Rattle.lists.proofs.All.{all_map}
use Rattle.lists.specs.Answer.{given}
use Rattle.lists.proofs.Answer.{given_same, row_given}
use Rattle.lists.proofs.Sorted.{find_key}
use Rattle.lists.proofs.Test.{or_i_l, or_i_r}
use Rattle.lists.proofs.Union.{union_comm}
use Rattle.networks.specs.Algebra.{Algebra, Telling}
use Rattle.networks.specs.Network.{Own, Input, Box, own, input, Wire, NetworkOver, ids, box_id, is_own_box, own_boxes, inputs, box, has_box, owns}
use Rattle.networks.specs.Sound.{Bounds, Joined, Sound, sends}
use Rattle.networks.specs.Lowest.{lowest}
use Rattle.networks.specs.Join.{meeting, joining, lower_of, over_bound, unmatched, join, Fitting}
use Rattle.networks.proofs.Laws.Joins.{OwnOnce, once_back, meeting_id, boxes_both, inputs_both, wires_both, policies_joining, joining_rise}
use Rattle.networks.proofs.Laws.Joins.{joining_wires_rise, owns_joining, has_joining, length_own}
use Rattle.networks.proofs.Laws.JointWires.{wires_comm, any_wires}
use Rattle.networks.proofs.Laws.JoinRows.{AllMatched, none_once, lower_none, matched_all, matches_at, table_none, over_none}

module _ (𝓐 : Algebra) where
  open 𝓐 use {Route, Policy, Demand}

  module _ (telling : Telling 𝓐) (B : Bounds) (N M : NetworkOver 𝓐) where
    open telling use {alike, alike_true, alike_self}

    pub joined_fitting : (F : NetworkOver 𝓐) → join 𝓐 telling B N M ≡ given F → Fitting 𝓐 B N M × (joining N M ≡ F)
    unfolding join
    joined_fitting F e =
        let a = row_given 21 (lowest (λ (b : Own Route Demand). owns M b.id) (own_boxes N)) _ F e in
        let b = row_given 22 (lower_of (unmatched 𝓐 N M) (unmatched 𝓐 M N)) _ F a.1 in
        let c = row_given 23 (cond (all_alike alike N.policies M.policies) none (some 0)) _ F b.1 in
        let d = row_given 24 (over_bound B.boxes (length (joining N M).boxes)) _ F c.1 in
        let f = row_given 24 (over_bound B.wires (length (joining N M).wires)) _ F d.1 in
        let m = lower_none (unmatched 𝓐 N M) (unmatched 𝓐 M N) b.0 in (
          record {
            own_once = none_once N M a.0;
            first_matched = matched_all 𝓐 N M m.0;
            second_matched = matched_all 𝓐 M N m.1;
            one_table = table_none alike alike_true alike_self N.policies M.policies c.0;
            boxes_within = over_none B.boxes (length (joining N M).boxes) d.0;
            wires_within = over_none B.wires (length (joining N M).wires) f.0;
          },
          given_same f.1,
        )

  -- what N assumes has its equal in M
  module _ (N M : NetworkOver 𝓐) (all_matched : AllMatched 𝓐 N M) (i : ℕ) (a : Input Route) (assumed : box N i ≡ some (input a)) where
    pub promise_assumed : (b : Own Route Demand) → box M i ≡ some (own b) → b.promise ≡ some a.assumed
    promise_assumed b e = rw e at (matches_at 𝓐 N M all_matched i a assumed)

    pub assumed_once : (c : Input Route) → box M i ≡ some (input c) → ◌≡◌ {A = Box Route Demand} (input a) (input c)
    assumed_once c e = ap input (λ t. record { id = ids_are t; assumed = routes_are t })
      where
        ids_are : a.id ≡ c.id
        ids_are = find_key box_id i N.boxes (input a) assumed ∙ sym (find_key box_id i M.boxes (input c) e)

        routes_are : a.assumed ≡ c.assumed
        routes_are = sym (rw e at (matches_at 𝓐 N M all_matched i a assumed))

  module _ (B : Bounds) (N M : NetworkOver 𝓐) (sound : Sound B N) (sound' : Sound B M) where
    -- where no box is owned by both and what the first assumes has its equal, the order does not matter
    pub boxes_comm : OwnOnce N M → AllMatched 𝓐 N M → (joining N M).boxes ≡ (joining M N).boxes
    unfolding joining
    boxes_comm once all_matched = union_comm box_id meeting meeting_id 0 N.boxes M.boxes sound.boxes_rise sound'.boxes_rise swap
      where
        swap : (i : ℕ) (v u : Box Route Demand) → box N i ≡ some v → box M i ≡ some u → meeting v u ≡ meeting u v
        swap i (own b) (own c) p q = absurd (false≢true (sym (once i (ap is_own_box p)) ∙ ap is_own_box q))
        swap i (own b) (input c) p q = refl
        swap i (input a) (own c) p q = refl
        swap i (input a) (input c) p q = assumed_once N M all_matched i a p c q

    pub joining_swap : OwnOnce N M → AllMatched 𝓐 N M → N.policies ≡ M.policies → joining N M ≡ joining M N
    unfolding joining
    joining_swap once all_matched table = λ t. record {
      policies = table t;
      boxes = boxes_comm once all_matched t;
      wires = wires_comm B N M sound sound' once t;
    }

    module _ (fitting : Fitting 𝓐 B N M) where
      pub joining_comm : joining N M ≡ joining M N
      joining_comm = joining_swap fitting.own_once fitting.first_matched fitting.one_table

      pub fitting_comm : Fitting 𝓐 B M N
      fitting_comm = record {
        own_once = once_back N M fitting.own_once;
        first_matched = fitting.second_matched;
        second_matched = fitting.first_matched;
        one_table = sym fitting.one_table;
        boxes_within = subst (λ (F : NetworkOver 𝓐). length F.boxes ≤ B.boxes) joining_comm fitting.boxes_within;
        wires_within = subst (λ (F : NetworkOver 𝓐). length F.wires ≤ B.wires) joining_comm fitting.wires_within;
      }

      first_joined : (w : Wire) → Joined N w → Joined (joining N M) w
      first_joined w h = record {
        to_own = owns_joining N M sound.boxes_rise sound'.boxes_rise w.to ∙ or_i_l (owns N w.to) (owns M w.to) h.to_own;
        from_there = has_joining N M sound.boxes_rise sound'.boxes_rise w.from ∙ or_i_l (has_box N w.from) (has_box M w.from) h.from_there;
        differ = h.differ;
        policy_there = subst (λ (ps : List Policy). w.policy < length ps) (sym (policies_joining N M)) h.policy_there;
      }

  pub joining_sound : (B : Bounds) (N M : NetworkOver 𝓐) → Sound B N → Sound B M → Fitting 𝓐 B N M → Sound B (joining N M)
  joining_sound B N M sound sound' fitting = record {
    boxes_within = fitting.boxes_within;
    wires_within = fitting.wires_within;
    policies_within = subst (λ (ps : List Policy). length ps ≤ B.policies) (sym (policies_joining N M)) sound.policies_within;
    ids_within = boxes_both N M (λ (v : Box Route Demand). box_id v < ids) sound.ids_within sound'.ids_within;
    boxes_rise = joining_rise N M sound.boxes_rise sound'.boxes_rise;
    some_own = omega (arith, length_own N M sound.boxes_rise sound'.boxes_rise fitting.own_once, sound.some_own);
    wires_rise = joining_wires_rise N M sound.wires_rise sound'.wires_rise;
    wires_joined = wires_both N M (Joined (joining N M))
        (all_map N.wires (first_joined B N M sound sound' fitting) sound.wires_joined)
        (all_map M.wires second_joined sound'.wires_joined);
    inputs_used = inputs_both N M (λ (a : Input Route). sends (joining N M) a.id ≡ true)
        (all_map (inputs N) (λ a t. sent a ∙ or_i_l (sends N a.id) (sends M a.id) t) sound.inputs_used)
        (all_map (inputs M) (λ a t. sent a ∙ or_i_r (sends N a.id) (sends M a.id) t) sound'.inputs_used);
  }
    where
      second_joined : (w : Wire) → Joined M w → Joined (joining N M) w
      second_joined w h = subst (λ (F : NetworkOver 𝓐). Joined F w) (sym (joining_comm B N M sound sound' fitting))
          (first_joined B M N sound' sound (fitting_comm B N M sound sound' fitting) w h)

      sent : (a : Input Route) → sends (joining N M) a.id ≡ sends N a.id || sends M a.id
      sent a = any_wires B N M sound sound' fitting.own_once (λ (w : Wire). eqb w.from a.id)

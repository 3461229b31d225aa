-- Where a route started, proved. A list that passes maps each box to what solves the network's equations, and every policy of a sound network
-- adds, so that the theorems about networks hold of what two records say; what is shown of a box and printed of it is taken apart by the
-- judge's answer.
use mathlib.Core.Path.{◌≡◌, refl, sym, ap, ap₂, ◌∙◌, subst}
use mathlib.Core.Bool.{true}
use mathlib.Core.List.{List, [], ◌∷◌, append-nil}
use Prim.Native.Nat.{ℕ}
use native.Mathlib.Omega.{arith}
use Rattle.lists.proofs.All.{all_map, all_both}
use Rattle.lists.specs.Answer.{given}
use Rattle.lists.specs.Bytes.{Bytes}
use Rattle.lists.specs.Rows.{laid_rows}
use Rattle.lists.proofs.Rows.{laid_map}
use Rattle.routes.specs.Carry.{highest}
use Rattle.routes.specs.Order.{same}
use Rattle.routes.specs.declared.Route.{Route}
use Rattle.routes.specs.declared.Route.TheVariants.{None}
use Rattle.routes.proofs.Ordered.{same_refl}
use Rattle.networks.specs.Network.{own_boxes, has_box, owns}
use Rattle.networks.specs.Sheets.{ListEntry}
use Rattle.networks.specs.Silence.{Empty}
use Rattle.networks.specs.Trail.{Trail, trail, trail_behind, with_routes, showing}
use Rattle.networks.proofs.Laws.Boxes.{own_box}
use Rattle.networks.proofs.Laws.Judging.{own_held}
use Rattle.networks.proofs.Laws.Senders.{trail_end}
use Rattle.networks.proofs.Silence as silence
use Rattle.networks.proofs.Trails as trails
use Rattle.layout.specs.Form.{form_of}
use Rattle.records.specs.Network.{SoundRecord}
use Rattle.reading.specs.Asking.{house_asking}
use Rattle.reading.specs.Whole.{HouseNetwork, HouseList, bounds, network_of, list_of}
use Rattle.reading.proofs.Bridges.{read_network_lem}
use Rattle.reading.proofs.HouseRoutes.{house_choice, house_costs}
use Rattle.lines.specs.Line.{box_line}
use Rattle.judging.specs.Text.{verdict_line}
use Rattle.tracing.specs.Tracing.{show_records}
use Rattle.tracing.specs.Text.{trail_lines, shown_text, trail_output}
use Rattle.promises.specs.Calls.{house1, Passes}
use Rattle.promises.specs.Trails.{mapping_of, Simple, Followed, TrailExists, EveryTrail, TrailPrinted, OneFollowed, HoldsNone, NoTrail, FromNowhere}
use Rattle.promises.proofs.Cuts.{passes_said}
use Rattle.promises.proofs.Demand2.{passes_exactly}
use Rattle.promises.proofs.Policies.{policies_add}

module _ (network list : List ℕ) where
  abbrev N : HouseNetwork
  N = network_of network

  abbrev L : HouseList
  L = list_of list

  abbrev ℒ : ℕ → Route
  ℒ = mapping_of network list

  -- the trail that is shown
  abbrev back : ℕ → List ℕ
  back = trail_behind house1 N ℒ

  module _ (small : Bytes network) (passes : Passes network list) where
    sound_record : SoundRecord network
    sound_record = ((passes_exactly network list small).0 passes).0

    abbrev settled : trails.Settled house1 (bounds (form_of network)) N ℒ
    settled = record {
      sound = (read_network_lem network small sound_record).0;
      choice = house_choice highest;
      solved = ((passes_exactly network list small).0 passes).3;
      costs = house_costs highest;
      lawful = policies_add network sound_record;
    }

    simple : (i : ℕ) (js : List ℕ) → (ℒ i ≡ None → ⊥) → Trail house1 N ℒ i js → Simple network list i js
    simple i js present t = (
      trails.trail_distinct house1 settled.sound ℒ settled.costs settled.lawful settled.choice i js present t,
      trails.trail_short house1 settled.sound ℒ settled.costs settled.lawful settled.choice i js present t,
    )

    shown_trail : (i : ℕ) → owns N i ≡ true → Trail house1 N ℒ i (back i)
    shown_trail = trails.shown_trail settled

    shown_simple : (i : ℕ) → owns N i ≡ true → Simple network list i (back i)
    shown_simple i t = (trails.shown_distinct settled i t, trails.shown_short settled i t)

    -- it goes on by the lowest sender until a box starts its route
    followed : (i : ℕ) → has_box N i ≡ true → Followed network list i (back i)
    followed = trails.along settled (λ (i : ℕ). has_box N i ≡ true → Followed network list i (back i))
        (λ i q t. rw (trail_end house1 N ℒ i q) (trails.sender_starts house1 settled.sound ℒ settled.choice settled.solved i t q))
        (λ i j q r t. rw (trails.trail_next settled i j q) (
          trails.sender_unstarted house1 settled.sound ℒ i j q,
          trails.sender_supplies house1 settled.sound ℒ i j q,
          trails.lowest_supplier house1 settled.sound ℒ i j q,
          r (trails.sender_there house1 settled.sound ℒ i j q),
        ))

    shown : (i : ℕ) → owns N i ≡ true → show_records network list i ≡ given (trail (with_routes house1 N ℒ (i ∷ back i)))
    unfolding show_records showing
    shown i t = rw (passes.1, t) refl

    printed : (i : ℕ) → owns N i ≡ true → trail_output network list i ≡ laid_rows (λ (k : ℕ). box_line k (ℒ k)) (i ∷ back i)
    unfolding trail_output shown_text trail_lines
    printed i t = ap shown_text (shown i t)
        ∙ laid_map (λ (e : ListEntry Route). box_line e.id e.route) (λ (k : ℕ). record { id = k; route = ℒ k }) (i ∷ back i)

  pub trail_exists : TrailExists network list
  trail_exists small passes i t present = (back i, shown_trail small passes i t, shown_simple small passes i t)

  pub every_trail : EveryTrail network list
  every_trail = simple

  pub trail_printed : TrailPrinted network list
  trail_printed small passes i t = (
    back i,
    followed small passes i (own_box N i t),
    shown_trail small passes i t,
    shown_simple small passes i t,
    shown small passes i t,
    printed small passes i t,
  )

  pub one_followed : OneFollowed network list
  one_followed i [] [] p q = refl
  one_followed i [] (k ∷ ks) p q = absurd (q.0 p)
  one_followed i (j ∷ js) [] p q = absurd (p.0 q)
  one_followed i (j ∷ js) (k ∷ ks) p q =
      let l = p.2 k q.1 in
      let m = q.2 j p.1 in
      let e : j ≡ k = omega arith in
      ap₂ ◌∷◌ e (one_followed j js ks p.3 (subst (λ (n : ℕ). Followed network list n ks) (sym e) q.3))

  pub holds_none : HoldsNone network list
  holds_none small passes i t absent = printed small passes i t
      ∙ ap (λ (js : List ℕ). laid_rows (λ (k : ℕ). box_line k (ℒ k)) (i ∷ js))
      (trails.none_alone (settled small passes) i absent)
      ∙ append-nil (box_line i (ℒ i)) ∙ ap (box_line i) absent

  pub no_trail : NoTrail network list
  unfolding show_records showing trail_output shown_text verdict_line
  no_trail i = (
    λ number place e. (rw e refl, rw e refl),
    λ verdict e t. (rw (e, t) refl, rw (e, t) refl),
    λ number node count route e t. (rw (e, t) refl, rw (e, t) refl),
  )

  pub from_nowhere : FromNowhere network list
  from_nowhere small passes starts assumed =
      ((silence.empty_pass house1 (house_choice highest) house_asking (bounds (form_of network)) N (settled small passes).sound L).0
      ((passes_said network list small passes).2, empty)).0
    where
      empty : Empty house1 N L
      empty = all_map (own_boxes N) (λ b f. ap (λ (r : Route). same r None) (sym f.0 ∙ f.1) ∙ same_refl None) (all_both _ _ (own_boxes N)
          (own_held house1 N L (settled small passes).sound.boxes_rise) (trails.nowhere (settled small passes) starts assumed))

-- Where no own box holds a route, what reaches a box is what inputs are assumed to hold, behind one wire.
--     listed_silent, silent_rises        the list without a route has no route for every own box, and stands by rising id
--     best_of_none, none_best_of           the best of several is no route exactly where each of them is
--     trans_none                         a wire makes nothing out of no route
--     eaten_crossed, crossed_eaten       no wire gives a route exactly where the inputs' routes are eaten
--     crossed_due, due_crossed           then no route is due where none starts, and back
use mathlib.Core.Path.{◌≡◌, refl, sym, ap, ap₂, ◌∙◌}
use mathlib.Core.Bool.{true}
use mathlib.Core.Option
use mathlib.Core.Option.{Option, none, some, get_or}
use mathlib.Core.List.{List, [], ◌∷◌, map}
use Prim.Native.Nat.{ℕ, suc}
use lib.Dec.{eqb}
use lib.ListN.{get_elem?}
use borrow.Author.Tests.{eqb-true, eq-eqb}
use Rattle.lists.specs.All.{All}
use Rattle.lists.proofs.All.{all_map, all_both, all_each}
use Rattle.lists.proofs.Filter.{all_filter, filtered_all, all_mapped, mapped_all}
use Rattle.lists.specs.Sorted.{Rises}
use Rattle.lists.proofs.Sorted.{find_key, find_map, find_self}
use Rattle.networks.specs.Algebra.{Algebra, Choice, AtLeast}
use Rattle.networks.specs.Network.{Own, Input, Box, own, input, Wire, NetworkOver, box_id, own_boxes, inputs, box, owns, wires_into}
use Rattle.networks.specs.Sheets.{ListEntry, RouteList, listed}
use Rattle.networks.specs.Solution.{trans, best_of, offers, due, mapping}
use Rattle.networks.specs.Judge.{held}
use Rattle.networks.specs.Silence.{ListsNone, silent_list, Eaten}
use Rattle.networks.proofs.Laws.Boxes.{own_found, input_found, own_fact, own_rise, input_there}
use Rattle.networks.proofs.Laws.Formed.{Formed}
use Rattle.networks.proofs.Laws.Judging.{mapping_own, mapping_input, own_held}
use Rattle.networks.proofs.Laws.Order.{best_of_first, best_of_each}

module _ (𝓐 : Algebra) where
  open 𝓐 use {Route, Policy, Demand, no_route, best, carry}

  pub listed_silent : (N : NetworkOver 𝓐) → Rises box_id 0 N.boxes → ListsNone 𝓐 N (silent_list 𝓐 N)
  unfolding listed
  listed_silent N rise = all_map (own_boxes N)
      (λ b e. ap (Option.map (λ (x : ListEntry Route). x.route)) (find_map (λ (c : Own Route Demand). c.id) (λ (x : ListEntry Route). x.id)
      (λ (c : Own Route Demand). record { id = c.id; route = no_route }) (λ c. refl) b.id (own_boxes N)
      ∙ ap (Option.map {B = ListEntry Route} (λ (c : Own Route Demand). record { id = c.id; route = no_route })) e))
      (find_self (λ (b : Own Route Demand). b.id) 0 (own_boxes N) (own_rise N rise))

  pub silent_rises : (N : NetworkOver 𝓐) → Rises box_id 0 N.boxes → Rises (λ (e : ListEntry Route). e.id) 0 (silent_list 𝓐 N)
  silent_rises N rise = go 0 (own_boxes N) (own_rise N rise)
    where
      go : (lo : ℕ) (bs : List (Own Route Demand)) → Rises (λ (b : Own Route Demand). b.id) lo bs
          → Rises (λ (e : ListEntry Route). e.id) lo (map (λ (b : Own Route Demand). record { id = b.id; route = no_route }) bs)
      go lo [] h = tt
      go lo (b ∷ bs) h = (h.0, go (suc b.id) bs h.1)

  module _ (choice : Choice 𝓐) where
    -- no route is at least as good as no route only
    none_best : (r : Route) → AtLeast 𝓐 no_route r → r ≡ no_route
    none_best r e = sym (choice.none_worst r) ∙ choice.commutative r no_route ∙ e

    pub best_of_none : (r : Route) (ss : List Route) → best_of 𝓐 r ss ≡ no_route → (r ≡ no_route) × All (λ (s : Route). s ≡ no_route) ss
    best_of_none r ss e = (
      none_best r (rw e at (best_of_first 𝓐 choice r ss)),
      all_map ss (λ s h. none_best s (rw e at h)) (best_of_each 𝓐 choice r ss),
    )

    pub none_best_of : (r : Route) (ss : List Route) → r ≡ no_route → All (λ (s : Route). s ≡ no_route) ss → best_of 𝓐 r ss ≡ no_route
    none_best_of r [] e h = e
    none_best_of r (s ∷ ss) e h = none_best_of (best r s) ss (ap₂ best e h.0 ∙ choice.none_worst no_route) h.1

    pub trans_none : (N : NetworkOver 𝓐) (w : Wire) → trans 𝓐 N w no_route ≡ no_route
    trans_none N w = go (get_elem? N.policies w.policy)
      where
        go : (o : Option Policy) → get_or (Option.map (λ (p : Policy). carry p no_route) o) no_route ≡ no_route
        go none = refl
        go (some p) = choice.carry_none p

    module _ (N : NetworkOver 𝓐) (formed : Formed N) (L : RouteList Route) (none_listed : ListsNone 𝓐 N L) where
      -- what a wire gives
      abbrev offer : Wire → Route
      offer w = trans 𝓐 N w (mapping 𝓐 N L w.from)

      abbrev pub Crossed : Type 0
      Crossed = All (λ (w : Wire). offer w ≡ no_route) N.wires

      abbrev NoRoute : Route → Type 0
      NoRoute r = r ≡ no_route

      own_held_none : All (λ (b : Own Route Demand). held 𝓐 L b.id ≡ no_route) (own_boxes N)
      own_held_none = all_map (own_boxes N) (λ b e. ap (λ (o : Option Route). get_or o no_route) e) none_listed

      pub own_none : All (λ (b : Own Route Demand). mapping 𝓐 N L b.id ≡ no_route) (own_boxes N)
      own_none = all_map (own_boxes N) (λ b f. f.0 ∙ f.1) (all_both _ _ (own_boxes N) (own_held 𝓐 N L formed.rise) own_held_none)

      -- a wire comes from an own box, which holds none, or from an input, whose route is eaten, or from nobody
      from_input : (w : Wire) → ((a : Input Route) → box N w.from ≡ some (input a) → trans 𝓐 N w a.assumed ≡ no_route) → offer w ≡ no_route
      unfolding mapping
      from_input w f = go (box N w.from) refl
        where
          go : (o : Option (Box Route Demand)) → box N w.from ≡ o → offer w ≡ no_route
          go none q = rw q (trans_none N w)
          go (some (own b)) q = ap (trans 𝓐 N w) (mapping_own 𝓐 N L w.from b q
              ∙ own_found N (λ (c : Own Route Demand). held 𝓐 L c.id ≡ no_route) w.from b own_held_none q) ∙ trans_none N w
          go (some (input a)) q = ap (trans 𝓐 N w) (mapping_input 𝓐 N L w.from a q) ∙ f a q

      pub eaten_crossed : Eaten 𝓐 N → Crossed
      eaten_crossed eaten = all_map N.wires
          (λ w f. from_input w (λ a q. f (w.from, a, q) (eq-eqb w.from a.id (sym (find_key box_id w.from N.boxes (input a) q)))))
          (all_each (λ (k : (i : ℕ) × (a : Input Route) × (box N i ≡ some (input a))) (w : Wire).
          eqb w.from k.1.id ≡ true → trans 𝓐 N w k.1.assumed ≡ no_route)
          N.wires (λ k. input_found N _ k.0 k.1 eaten k.2))

      pub crossed_eaten : Crossed → Eaten 𝓐 N
      crossed_eaten crossed = all_map (inputs N) (λ a q. all_map N.wires
          (λ w c e. sym (ap (trans 𝓐 N w) (ap (mapping 𝓐 N L) (eqb-true w.from a.id e) ∙ mapping_input 𝓐 N L a.id a q)) ∙ c) crossed)
          (input_there N formed.rise)

      pub crossed_due : All (λ (b : Own Route Demand). b.initial ≡ no_route) (own_boxes N) → Crossed
          → All (λ (b : Own Route Demand). due 𝓐 N (mapping 𝓐 N L) b ≡ no_route) (own_boxes N)
      unfolding due
      crossed_due starts crossed = all_map (own_boxes N) (λ b e. none_best_of b.initial (offers 𝓐 N (mapping 𝓐 N L) b.id) e
          (all_mapped NoRoute offer (wires_into N b.id)
          (all_filter _ (λ (w : Wire). eqb w.to b.id) N.wires (all_map N.wires (λ w c t. c) crossed)))) starts

      -- every wire leads to an own box, where nothing is due
      pub due_crossed : All (λ (b : Own Route Demand). due 𝓐 N (mapping 𝓐 N L) b ≡ no_route) (own_boxes N)
          → All (λ (b : Own Route Demand). b.initial ≡ no_route) (own_boxes N) × Crossed
      unfolding due
      due_crossed dues = (
        all_map (own_boxes N) (λ b e. (best_of_none b.initial (offers 𝓐 N (mapping 𝓐 N L) b.id) e).0) dues,
        all_map N.wires (λ w f. f.1 (w.to, f.0.to_own) (eq-eqb w.to w.to refl)) (all_both _ _ N.wires formed.joined
            (all_each (λ (k : (i : ℕ) × (owns N i ≡ true)) (w : Wire). eqb w.to k.0 ≡ true → offer w ≡ no_route)
            N.wires (λ k. own_fact N _ k.0 into k.1))),
      )
        where
          into : All (λ (b : Own Route Demand). All (λ (w : Wire). eqb w.to b.id ≡ true → offer w ≡ no_route) N.wires) (own_boxes N)
          into = all_map (own_boxes N) (λ b e. filtered_all (λ (w : Wire). offer w ≡ no_route) (λ (w : Wire). eqb w.to b.id) N.wires
              (mapped_all NoRoute offer (wires_into N b.id) (best_of_none b.initial (offers 𝓐 N (mapping 𝓐 N L) b.id) e).1)) dues

-- Solutions, for any mapping ℒ, in a network and in its fragments.
--     everywhere, anywhere           what every fragment's own boxes have, every own box has, and back
--     promised_note ..               promises in a fragment
--     holds_due, holds_assumed       equations 6 and 7 at the box with an id
--     solution_ext                   a solution is read at the network's boxes only
--     due_fragment                   the due route of an own box is the same in its fragment
--     whole_solved, notes_kept       what solves every fragment solves the network, and has the notes where cut wires leave
--     fragment_solved                and back
use mathlib.Core.Path.{◌≡◌, refl, sym, ap, ◌∙◌, subst}
use mathlib.Core.Bool.{Bool, true, false, ◌&&◌, false≢true}
use mathlib.Core.Option.{Option, none, some, none-ne-some, some-injective}
use mathlib.Core.List.{List, map}
use Prim.Native.Nat.{ℕ}
use lib.Dec.{eqb}
use borrow.Author.Tests.{eqb-true, eq-eqb}
use Rattle.lists.proofs.Test.{and_i}
use Rattle.lists.specs.All.{All}
use Rattle.lists.proofs.All.{all_map, all_both, all_each, any_found, any_here}
use Rattle.lists.proofs.Filter.{all_filter, map_congr}
use Rattle.lists.proofs.Sorted.{find_key}
use Rattle.networks.specs.Algebra.{Algebra}
use Rattle.networks.specs.Network.{Own, Input, own, input, Wire, Network, box_id, is_box, is_own_box, own_boxes, inputs, box, has_box, wires_into}
use Rattle.networks.specs.Sound.{sends}
use Rattle.networks.specs.Sheets.{Sheet, number, note}
use Rattle.lists.specs.Answer.{is_some}
use Rattle.networks.specs.Solution.{trans, best_of, due, Solution}
use Rattle.networks.specs.Cut.{only, promised, leaves, feeds, promising_own, fragment_of, fragment, Agrees}
use Rattle.networks.proofs.Laws.Boxes.{own_found, input_found, own_there, input_there}
use Rattle.networks.proofs.Laws.Pieces.{own_kept, kept_own, inputs_kept, kept_inputs, wires_into_fragment}
use Rattle.networks.proofs.Laws.Formed.{Formed, feeds_leaves}
use Rattle.networks.proofs.Laws.Cutting.{Fits}

-- what the own boxes of every fragment have, every own box has as its fragment has it
pub everywhere : {R P D : Type 0} (N : Network R P D) (S : Sheet R) (Q : ℕ → Own R D → Type 0)
    → ((k : ℕ) → All (Q k) (own_boxes (fragment N S k))) → All (λ (b : Own R D). Q (number S b.id) (promising_own N S b)) (own_boxes N)
everywhere {R} {P} {D} N S Q h =
    all_map (own_boxes N) (λ b f. f (number S b.id) (eq-eqb (number S b.id) (number S b.id) refl))
    (all_each (λ (k : ℕ) (b : Own R D). eqb (number S b.id) k ≡ true → Q k (promising_own N S b)) (own_boxes N)
    (λ k. kept_own N S (only k) (Q k) (h k)))

-- and back
pub anywhere : {R P D : Type 0} (N : Network R P D) (S : Sheet R) (Q : ℕ → Own R D → Type 0)
    → All (λ (b : Own R D). Q (number S b.id) (promising_own N S b)) (own_boxes N) → (k : ℕ) → All (Q k) (own_boxes (fragment N S k))
anywhere N S Q h k =
    own_kept N S (only k) (Q k) (all_map (own_boxes N) (λ b f e. subst (λ (n : ℕ). Q n (promising_own N S b)) (eqb-true (number S b.id) k e) f) h)

-- a promise in a fragment: the network's own, and the note where a cut wire leaves
promised_own : {R : Type 0} (x : R) (p n : Option R) (left : Bool) → ((q : R) → promised p left n ≡ some q → x ≡ q) → (q : R) → p ≡ some q → x ≡ q
promised_own x none n left g q e = absurd (none-ne-some _ e)
promised_own x (some y) n left g q e = g q e

pub promised_note : {R : Type 0} (x : R) (p n : Option R) (left : Bool) → left ≡ true → is_some n ≡ true → ((q : R) → p ≡ some q → n ≡ some q)
    → ((q : R) → promised p left n ≡ some q → x ≡ q) → some x ≡ n
promised_note x none none true l s f g = absurd (false≢true s)
promised_note x none (some n) true l s f g = ap some (g n refl)
promised_note x none n false l s f g = absurd (false≢true l)
promised_note x (some q) n left l s f g = ap some (g q refl) ∙ sym (f q refl)

own_promised : {R : Type 0} (x : R) (p n : Option R) (left : Bool) → (left ≡ true → some x ≡ n) → ((q : R) → p ≡ some q → x ≡ q) → (q : R)
    → promised p left n ≡ some q → x ≡ q
own_promised x none n true f g q e = some-injective _ _ (f refl ∙ e)
own_promised x none n false f g q e = absurd (none-ne-some _ e)
own_promised x (some y) n left f g q e = g q e

module _ (𝓐 : Algebra) where
  open 𝓐 use {Route, Policy, Demand}

  module _ (N : Network Route Policy Demand) (ℒ : ℕ → Route) (solved : Solution 𝓐 N ℒ) (i : ℕ) where
    pub holds_due : (b : Own Route Demand) → box N i ≡ some (own b) → ℒ i ≡ due 𝓐 N ℒ b
    holds_due b e = ap ℒ (sym (find_key box_id i N.boxes (own b) e))
        ∙ own_found N (λ (c : Own Route Demand). ℒ c.id ≡ due 𝓐 N ℒ c) i b solved.equation_6 e

    pub holds_assumed : (a : Input Route) → box N i ≡ some (input a) → ℒ i ≡ a.assumed
    holds_assumed a e = ap ℒ (sym (find_key box_id i N.boxes (input a) e))
        ∙ input_found N (λ (c : Input Route). ℒ c.id ≡ c.assumed) i a solved.equation_7 e

  module _ (N : Network Route Policy Demand) (formed : Formed N) (ℒ ℳ : ℕ → Route) (same : (i : ℕ) → has_box N i ≡ true → ℒ i ≡ ℳ i) where
    due_ext : (b : Own Route Demand) → due 𝓐 N ℒ b ≡ due 𝓐 N ℳ b
    unfolding due
    due_ext b = ap (best_of 𝓐 b.initial) (map_congr _ _ (wires_into N b.id) (all_filter _ (λ (w : Wire). eqb w.to b.id) N.wires
        (all_map N.wires (λ w h t. ap (trans 𝓐 N w) (same w.from h.from_there)) formed.joined)))

    at_own : All (λ (b : Own Route Demand). ℒ b.id ≡ ℳ b.id) (own_boxes N)
    at_own = all_map (own_boxes N) (λ b e. same b.id (ap is_box e)) (own_there N formed.rise)

    pub solution_ext : Solution 𝓐 N ℒ → Solution 𝓐 N ℳ
    solution_ext h = record {
      equation_6 = all_map (own_boxes N) (λ b f. sym f.0 ∙ f.1 ∙ due_ext b) (all_both _ _ (own_boxes N) at_own h.equation_6);
      equation_7 = all_map (inputs N) (λ a f. sym (same a.id (ap is_box f.0)) ∙ f.1)
          (all_both _ _ (inputs N) (input_there N formed.rise) h.equation_7);
      equation_8 = all_map (own_boxes N) (λ b f q e. sym f.0 ∙ f.1 q e) (all_both _ _ (own_boxes N) at_own h.equation_8);
    }

  pub due_fragment : (N : Network Route Policy Demand) (S : Sheet Route) (ℒ : ℕ → Route) (b : Own Route Demand)
      → due 𝓐 (fragment N S (number S b.id)) ℒ (promising_own N S b) ≡ due 𝓐 N ℒ b
  unfolding due fragment_of
  due_fragment N S ℒ b = ap (λ (ws : List Wire). best_of 𝓐 b.initial (map (λ (w : Wire). trans 𝓐 N w (ℒ w.from)) ws))
      (wires_into_fragment N S (only (number S b.id)) b.id (eq-eqb (number S b.id) (number S b.id) refl))

  module _ (N : Network Route Policy Demand) (S : Sheet Route) (ℒ : ℕ → Route) where
    -- from the fragments to the network
    module _ (used : All (λ (a : Input Route). sends N a.id ≡ true) (inputs N)) (solved : (k : ℕ) → Solution 𝓐 (fragment N S k) ℒ) where
      promises : All (λ (b : Own Route Demand). (q : Route) → promised b.promise (leaves N S b.id) (note S b.id) ≡ some q
          → ℒ b.id ≡ q) (own_boxes N)
      promises = everywhere N S (λ (k : ℕ) (b : Own Route Demand). (q : Route) → b.promise ≡ some q → ℒ b.id ≡ q) (λ k. (solved k).equation_8)

      -- an input feeds the fragment of the box that it has a wire to
      assumptions : All (λ (a : Input Route). ℒ a.id ≡ a.assumed) (inputs N)
      unfolding feeds
      assumptions = all_map (inputs N) at (all_both _ _ (inputs N) used
          (all_each (λ (k : ℕ) (a : Input Route). feeds N S (only k) a.id ≡ true → ℒ a.id ≡ a.assumed) (inputs N)
          (λ k. kept_inputs N S (only k) (λ (a : Input Route). ℒ a.id ≡ a.assumed) (solved k).equation_7)))
        where
          at : (a : Input Route) → (sends N a.id ≡ true) × ((k : ℕ) → feeds N S (only k) a.id ≡ true → ℒ a.id ≡ a.assumed)
              → ℒ a.id ≡ a.assumed
          at a f =
              let w = any_found (λ (x : Wire). eqb x.from a.id) N.wires (any_here N.wires) f.0 in
              f.1 (number S w.0.to) (w.1 (λ (x : Wire). eqb x.from a.id && eqb (number S x.to) (number S w.0.to))
              (and_i _ _ w.2 (eq-eqb (number S w.0.to) _ refl)))

      pub whole_solved : Solution 𝓐 N ℒ
      whole_solved = record {
        equation_6 = all_map (own_boxes N) (λ b e. e ∙ due_fragment N S ℒ b)
            (everywhere N S (λ (k : ℕ) (b : Own Route Demand). ℒ b.id ≡ due 𝓐 (fragment N S k) ℒ b) (λ k. (solved k).equation_6));
        equation_7 = assumptions;
        equation_8 = all_map (own_boxes N) (λ b f. promised_own (ℒ b.id) b.promise (note S b.id) (leaves N S b.id) f) promises;
      }

      pub notes_kept : Fits N S → Agrees N S (λ (i : ℕ). some (ℒ i))
      notes_kept fits = all_map (own_boxes N) (λ b f l. promised_note (ℒ b.id) b.promise (note S b.id) (leaves N S b.id) l f.0
          (f.1.0 l) f.1.1)
          (all_both _ _ (own_boxes N) fits.entered (all_both _ _ (own_boxes N) fits.notes promises))

    -- and back
    pub fragment_solved : Formed N → Solution 𝓐 N ℒ → Agrees N S (λ (i : ℕ). some (ℒ i)) → (k : ℕ) → Solution 𝓐 (fragment N S k) ℒ
    fragment_solved formed h agrees k = record {
      equation_6 = anywhere N S (λ (m : ℕ) (b : Own Route Demand). ℒ b.id ≡ due 𝓐 (fragment N S m) ℒ b)
          (all_map (own_boxes N) (λ b e. e ∙ sym (due_fragment N S ℒ b)) h.equation_6) k;
      equation_7 = inputs_kept N S (only k) (λ (a : Input Route). ℒ a.id ≡ a.assumed)
          (all_map (inputs N) (λ a e t. e) h.equation_7)
          (all_map (own_boxes N) (λ b f s t n e. some-injective _ _ (f.1 (feeds_leaves N S formed (only k) b.id (ap is_own_box f.0) s t) ∙ e))
          (all_both _ _ (own_boxes N) (own_there N formed.rise) agrees));
      equation_8 = anywhere N S (λ (m : ℕ) (b : Own Route Demand). (q : Route) → b.promise ≡ some q → ℒ b.id ≡ q)
          (all_map (own_boxes N) (λ b f. own_promised (ℒ b.id) b.promise (note S b.id) (leaves N S b.id) f.0 f.1)
          (all_both _ _ (own_boxes N) agrees h.equation_8)) k;
    }

-- The parts of a fragment at every id, beside those of definition IV.3 of document 000.
--     by_box                    an id has no box, an input or an own box
--     into_feeds .. cut_feeds   the paper's two ways into a fragment
--     at_every                  own boxes, inputs, outputs, init, ass, guar and demands at every id
--     there, edge_at, trans_at_lem  all boxes; edges, and what is carried over them
use mathlib.Core.Path.{◌≡◌, refl, sym, ap, ap₂, ◌∙◌, subst}
use mathlib.Core.Bool.{Bool, true, false, cond, not, ◌&&◌, ◌||◌, or-false, false≢true, true≢false}
use mathlib.Core.List.{List}
use mathlib.Core.Option.{Option, none, some, map, bind}
use Prim.Native.Nat.{ℕ}
use lib.Dec.{eqb}
use borrow.Author.Tests.{eqb-true, eqb-false, eq-eqb, ne_eqb, not-true}
use Rattle.lists.proofs.Test.{and_l, and_r, and_i, or_i_l, same_test}
use Rattle.lists.proofs.All.{all_map, all_of, any_congr, any_mono, any_found, false_any}
use Rattle.lists.specs.All.{any}
use Rattle.lists.specs.Sorted.{find}
use Rattle.lists.proofs.Sorted.{find_key}
use Rattle.networks.specs.Algebra.{Algebra}
use Rattle.networks.specs.Network.{Own, Input, Box, own, input, Wire, Network, NetworkOver, box_id, is_box, is_own_box, box, has_box, owns}
use Rattle.networks.specs.Sound.{Joined}
use Rattle.networks.specs.Sheets.{Sheet, number, note}
use Rattle.lists.specs.Answer.{is_some}
use Rattle.networks.specs.Lowest.{Entered}
use Rattle.networks.specs.Solution.{trans}
use Rattle.networks.specs.Cut.{only, promised, assuming, is_cut, leaves, feeds, promising_own, piece, fragment_of, fragment}
use Rattle.networks.specs.Paper.{assumed_of, init, ass, guar, V_in, V_out, E, demanded, trans_at, W, wired_into, cut_wire_into, V_in_k, V_out_k, V_k, E_k, ass_k, guar_k}
use Rattle.networks.proofs.Laws.Boxes.{own_found}
use Rattle.networks.proofs.Laws.Pieces.{box_piece, edge_fragment, wires_into_fragment}
use Rattle.lists.proofs.Answer.{is_some_true}
use Rattle.networks.proofs.Laws.Formed.{Formed, fragment_formed_lem}

-- a box is an own one or an input
module _ {R D : Type 0} where
  box_either : (o : Option (Box R D)) → is_box o ≡ is_own_box o || is_some (assumed_of o)
  box_either none = refl
  box_either (some (own b)) = refl
  box_either (some (input a)) = refl

  pub own_not_input : (o : Option (Box R D)) → is_own_box o ≡ true → is_some (assumed_of o) ≡ false
  own_not_input none t = refl
  own_not_input (some (own b)) t = refl
  own_not_input (some (input a)) t = absurd (false≢true t)

-- what holds at every id: it has no box, an input or an own box
by_box : {R P D : Type 0} (N : Network R P D) (Q : ℕ → Type 0)
    → ((i : ℕ) → box N i ≡ none → Q i) → ((a : Input R) → box N a.id ≡ some (input a) → Q a.id)
    → ((b : Own R D) → box N b.id ≡ some (own b) → Q b.id)
    → (i : ℕ) → Q i
by_box {R} {P} {D} N Q f g h i = go (box N i) refl
  where
    go : (o : Option (Box R D)) → box N i ≡ o → Q i
    go none q = f i q
    go (some (input a)) q = let e = find_key box_id i N.boxes (input a) q in subst Q e (g a (subst (λ (j : ℕ). box N j ≡ some (input a)) (sym e) q))
    go (some (own b)) q = let e = find_key box_id i N.boxes (own b) q in subst Q e (h b (subst (λ (j : ℕ). box N j ≡ some (own b)) (sym e) q))

module _ {R P D : Type 0} (N : Network R P D) (S : Sheet R) (k : ℕ) (formed : Formed N) (entered : Entered N (note S)) where
  abbrev F : Network R P D
  F = fragment N S k

  -- every wire leads to an own box
  pub into_feeds : (u : ℕ) → wired_into N S k u ≡ feeds N S (only k) u
  unfolding feeds
  into_feeds u = any_congr _ _ N.wires (all_map N.wires (λ w h. rw h.to_own refl) formed.joined)

  pub no_cut_into : (u : ℕ) → owns N u ≡ false → cut_wire_into N S k u ≡ false
  no_cut_into u f = false_any _ N.wires (all_map N.wires at formed.joined)
    where
      at : (w : Wire) → Joined N w → eqb w.from u && (is_cut N S w && W N S k w.to) ≡ false
      at w h = rw h.to_own (go (eqb w.from u) refl)
        where
          go : (t : Bool) → eqb w.from u ≡ t → t && ((owns N w.from && not (eqb (number S w.to) (number S w.from))) && only k
              (number S w.to)) ≡ false
          go false q = refl
          go true q = rw (eqb-true w.from u q, f) refl

  pub cut_feeds : (u : ℕ) → owns N u ≡ true → cut_wire_into N S k u ≡ not (only k (number S u)) && feeds N S (only k) u
  unfolding feeds
  cut_feeds u t = same_test _ _ forth back
    where
      parts : (w : Wire) → eqb w.from u && (is_cut N S w && W N S k w.to) ≡ true
          → (w.from ≡ u) × (not (eqb (number S w.to) (number S w.from)) ≡ true) × (only k (number S w.to) ≡ true)
      parts w e =
          let i = and_r (eqb w.from u) (is_cut N S w && W N S k w.to) e in
          let c = and_l (is_cut N S w) (W N S k w.to) i in (
            eqb-true w.from u (and_l (eqb w.from u) (is_cut N S w && W N S k w.to) e),
            and_r (owns N w.from) _ (and_r (owns N w.to) _ c),
            and_r (owns N w.to) _ (and_r (is_cut N S w) (W N S k w.to) i),
          )

      forth : cut_wire_into N S k u ≡ true → not (only k (number S u)) && any (λ (w : Wire). eqb w.from u && only k (number S w.to)) N.wires ≡ true
      forth e =
          let f = any_found (λ (w : Wire). eqb w.from u && (is_cut N S w && W N S k w.to)) N.wires formed.joined e in
          let w = f.0 in
          let g = parts w f.2 in
          and_i _ _
          (ap not (ne_eqb (number S u) k (λ q. eqb-false (number S w.to) (number S w.from) (not-true _ g.1)
          (eqb-true (number S w.to) k g.2 ∙ sym q ∙ ap (number S) (sym g.0)))))
          (any_mono _ _ N.wires (all_of N.wires (λ v h. let p = parts v h in and_i _ _ (eq-eqb v.from u p.0) p.2)) e)

      back : not (only k (number S u)) && any (λ (w : Wire). eqb w.from u && only k (number S w.to)) N.wires ≡ true → cut_wire_into N S k u ≡ true
      back e = any_mono _ _ N.wires (all_map N.wires at formed.joined) (and_r (not (only k (number S u))) _ e)
        where
          out : number S u ≡ k → ⊥
          out = eqb-false (number S u) k (not-true (only k (number S u)) (and_l (not (only k (number S u))) _ e))

          at : (w : Wire) → Joined N w → eqb w.from u && only k (number S w.to) ≡ true
              → eqb w.from u && (is_cut N S w && W N S k w.to) ≡ true
          at w h f =
              let p : w.from ≡ u = eqb-true w.from u (and_l (eqb w.from u) (only k (number S w.to)) f) in
              let q : only k (number S w.to) ≡ true = and_r (eqb w.from u) (only k (number S w.to)) f in
              and_i _ _ (eq-eqb w.from u p) (and_i _ _
              (and_i _ _ h.to_own (and_i _ _ (ap (owns N) p ∙ t)
              (ap not (ne_eqb (number S w.to) (number S w.from)
              (λ z. out (sym (z ∙ ap (number S) p) ∙ eqb-true (number S w.to) k q))))))
              (and_i _ _ h.to_own q))

  -- the parts at one id
  pub record At (u : ℕ) : Type 0 where
    pub own_at : owns F u ≡ W N S k u
    pub input_at : V_in F u ≡ V_in_k N S k u
    pub output_at_lem : V_out F u ≡ V_out_k N S k u
    pub init_at : W N S k u ≡ true → init F u ≡ init N u
    pub ass_at : V_in_k N S k u ≡ true → ass F u ≡ ass_k N S k u
    pub guar_at : V_out_k N S k u ≡ true → guar F u ≡ guar_k N S k u
    pub demand_at_lem : W N S k u ≡ true → demanded F u ≡ demanded N u

  at_none : (i : ℕ) → box N i ≡ none → At i
  unfolding bind
  at_none i q =
      let e : box F i ≡ none = rw (box_piece N S (only k) formed.rise i, q) refl in
      let c : cut_wire_into N S k i ≡ false = no_cut_into i (rw q refl) in
      record {
        own_at = rw (e, q) refl;
        input_at = rw (e, q, c) refl;
        output_at_lem = rw (e, q) refl;
        init_at = λ t. rw (e, q) refl;
        ass_at = λ t. absurd (false≢true (rw (q, c) at t));
        guar_at = λ t. absurd (false≢true (rw q at t));
        demand_at_lem = λ t. rw (e, q) refl;
      }

  at_input : (a : Input R) → box N a.id ≡ some (input a) → At a.id
  unfolding bind
  at_input a q = go (feeds N S (only k) a.id) refl
    where
      go : (t : Bool) → feeds N S (only k) a.id ≡ t → At a.id
      go true f =
          let e : box F a.id ≡ some (input a) = rw (box_piece N S (only k) formed.rise a.id, q, f) refl in
          let i : wired_into N S k a.id ≡ true = into_feeds a.id ∙ f in
          record {
            own_at = rw (e, q) refl;
            input_at = rw (e, q, i) refl;
            output_at_lem = rw (e, q) refl;
            init_at = λ t. rw (e, q) refl;
            ass_at = λ t. rw (e, q) refl;
            guar_at = λ t. absurd (false≢true (rw q at t));
            demand_at_lem = λ t. rw (e, q) refl;
          }
      go false f =
          let e : box F a.id ≡ none = rw (box_piece N S (only k) formed.rise a.id, q, f) refl in
          let i : wired_into N S k a.id ≡ false = into_feeds a.id ∙ f in
          let c : cut_wire_into N S k a.id ≡ false = no_cut_into a.id (rw q refl) in
          record {
            own_at = rw (e, q) refl;
            input_at = rw (e, q, i, c) refl;
            output_at_lem = rw (e, q) refl;
            init_at = λ t. rw (e, q) refl;
            ass_at = λ t. absurd (false≢true (rw (q, i, c) at t));
            guar_at = λ t. absurd (false≢true (rw q at t));
            demand_at_lem = λ t. rw (e, q) refl;
          }

  -- promises in the fragment, where there is a note
  promised_some : (p : Option R) (l : Bool) (n : R) → is_some (promised p l (some n)) ≡ is_some p || l
  promised_some none true n = refl
  promised_some none false n = refl
  promised_some (some q) l n = refl

  promised_is : (p : Option R) (l : Bool) (n : R) → is_some p || l ≡ true → promised p l (some n) ≡ cond (is_some p) p (some n)
  promised_is none true n t = refl
  promised_is none false n t = absurd (false≢true t)
  promised_is (some q) l n t = refl

  at_own : (b : Own R D) → box N b.id ≡ some (own b) → At b.id
  unfolding bind
  at_own b q = go (only k (number S b.id)) refl (feeds N S (only k) b.id) refl
      (is_some_true (note S b.id) (own_found N (λ (c : Own R D). is_some (note S c.id) ≡ true) b.id b entered q))
    where
      piece_is : box F b.id ≡ piece N S (only k) (own b)
      piece_is = rw (box_piece N S (only k) formed.rise b.id, q) refl

      go : (s : Bool) → only k (number S b.id) ≡ s → (t : Bool) → feeds N S (only k) b.id ≡ t → (n : R) × (note S b.id ≡ some n) → At b.id
      go true s t f n =
          let e : box F b.id ≡ some (own (promising_own N S b)) = piece_is ∙ rw s refl in
          let c : cut_wire_into N S k b.id ≡ false = cut_feeds b.id (rw q refl) ∙ rw s refl in
          record {
            own_at = rw (e, q, s) refl;
            input_at = rw (e, q, c) refl;
            output_at_lem = rw (e, q, s, n.1) (promised_some b.promise (leaves N S b.id) n.0);
            init_at = λ u. rw (e, q) refl;
            ass_at = λ u. absurd (false≢true (rw (q, c) at u));
            guar_at = λ u. rw (e, q, n.1) (promised_is b.promise (leaves N S b.id) n.0 (rw (q, s) at u));
            demand_at_lem = λ u. rw (e, q) refl;
          }
      go false s true f n =
          let e : box F b.id ≡ some (assuming b n.0) = piece_is ∙ rw (s, f, n.1) refl in
          let c : cut_wire_into N S k b.id ≡ true = cut_feeds b.id (rw q refl) ∙ rw (s, f) refl in
          record {
            own_at = rw (e, q, s) refl;
            input_at = rw (e, q, c) refl;
            output_at_lem = rw (e, q, s) refl;
            init_at = λ u. absurd (false≢true (rw (q, s) at u));
            ass_at = λ u. rw (e, q, n.1) refl;
            guar_at = λ u. absurd (false≢true (rw (q, s) at u));
            demand_at_lem = λ u. absurd (false≢true (rw (q, s) at u));
          }
      go false s false f n =
          let e : box F b.id ≡ none = piece_is ∙ rw (s, f) refl in
          let c : cut_wire_into N S k b.id ≡ false = cut_feeds b.id (rw q refl) ∙ rw (s, f) refl in
          record {
            own_at = rw (e, q, s) refl;
            input_at = rw (e, q, c) refl;
            output_at_lem = rw (e, q, s) refl;
            init_at = λ u. absurd (false≢true (rw (q, s) at u));
            ass_at = λ u. absurd (false≢true (rw (q, c) at u));
            guar_at = λ u. absurd (false≢true (rw (q, s) at u));
            demand_at_lem = λ u. absurd (false≢true (rw (q, s) at u));
          }

  pub at_every : (u : ℕ) → At u
  at_every = by_box N At at_none at_input at_own

  pub there : (u : ℕ) → has_box F u ≡ V_k N S k u
  there u = box_either (box F u) ∙ ap₂ ◌||◌ (at_every u).own_at (at_every u).input_at

  -- the to end of a kept edge is no input, and its from end is one of the fragment's boxes
  pub edge_at : (u v : ℕ) → E F u v ≡ E_k N S k u v && not (V_in_k N S k v)
  edge_at u v = same_test _ _ forth back
    where
      forth : E F u v ≡ true → E_k N S k u v && not (V_in_k N S k v) ≡ true
      forth e =
          let f = any_found (λ (w : Wire). eqb w.from u && eqb w.to v) F.wires (fragment_formed_lem N S formed (only k) entered).joined e in
          let w = f.0 in
          let p : w.from ≡ u = eqb-true w.from u (and_l (eqb w.from u) (eqb w.to v) f.2) in
          let q : w.to ≡ v = eqb-true w.to v (and_r (eqb w.from u) (eqb w.to v) f.2) in
          let o : owns F v ≡ true = ap (owns F) (sym q) ∙ f.1.to_own in
          and_i _ _
          (and_i _ _ (sym (there u) ∙ ap (has_box F) (sym p) ∙ f.1.from_there)
          (and_i _ _ (or_i_l _ _ (sym (at_every v).own_at ∙ o)) (and_r (only k (number S v)) (E N u v) (sym (edge_fragment N S (only k) u v) ∙ e))))
          (ap not (sym (at_every v).input_at ∙ own_not_input (box F v) o))

      back : E_k N S k u v && not (V_in_k N S k v) ≡ true → E F u v ≡ true
      back e =
          let b : E_k N S k u v ≡ true = and_l (E_k N S k u v) (not (V_in_k N S k v)) e in
          let r = and_r (V_k N S k u) (V_k N S k v && E N u v) b in
          edge_fragment N S (only k) u v ∙ and_i _ _ (inside (V_in_k N S k v) (not-true (V_in_k N S k v) (and_r (E_k N S k u v) (not (V_in_k N S k v)) e))
          (and_l (V_k N S k v) (E N u v) r))
          (and_r (V_k N S k v) (E N u v) r)
        where
          inside : (i : Bool) → i ≡ false → W N S k v || i ≡ true → only k (number S v) ≡ true
          inside true z t = absurd (true≢false z)
          inside false z t = and_r (owns N v) (only k (number S v)) (sym (or-false (W N S k v)) ∙ t)

-- a box of the fragment has its wires, with their policies
pub trans_at_lem : (𝓐 : Algebra) (N : NetworkOver 𝓐) (S : Sheet 𝓐.Route) (k u v : ℕ) → E (fragment N S k) u v ≡ true
    → (r : 𝓐.Route) → trans_at 𝓐 (fragment N S k) u v r ≡ trans_at 𝓐 N u v r
unfolding fragment_of
trans_at_lem 𝓐 N S k u v e r = ap (λ (ws : List Wire). map (λ (w : Wire). trans 𝓐 N w r) (find (λ (w : Wire). w.from) u ws))
    (wires_into_fragment N S (only k) v (and_l (only k (number S v)) (E N u v) (sym (edge_fragment N S (only k) u v) ∙ e)))

-- The fragments of one sheet together. An own box has one number, and an edge goes by that of its to end. A box that feeds a fragment from
-- outside is left by a cut wire, so that its own fragment promises its note, which the other one assumes.
--     crossed          the from end of a cut wire
--     parts_cover      what are a sheet's fragments, each own box's among them, covers the network
use mathlib.Core.Path.{◌≡◌, refl, sym, ap, ◌∙◌, subst}
use mathlib.Core.Bool.{Bool, true, false, cond, not, ◌&&◌, ◌||◌, or-false, false≢true}
use mathlib.Core.Option.{Option, none, some, bind}
use Prim.Native.Nat.{ℕ}
use lib.Dec.{eqb}
use borrow.Author.Tests.{eqb-true, eqb-false, eq-eqb, ne_eqb, not-true}
use Rattle.lists.proofs.Test.{and_l, and_r, and_i, or_i_l, or_i_r, or_second}
use Rattle.lists.proofs.All.{all_of, any_mono, any_found, any_here}
use Rattle.lists.specs.Answer.{is_some}
use Rattle.lists.proofs.Answer.{is_some_true}
use Rattle.lists.proofs.Sorted.{find_key}
use Rattle.networks.specs.Network.{Own, Input, Box, own, input, Wire, Network, box_id, is_box, is_own_box, box, has_box, owns}
use Rattle.networks.specs.Sound.{Bounds, Sound, sends}
use Rattle.networks.specs.Sheets.{Sheet, number, note}
use Rattle.networks.specs.Cut.{only, leaves, feeds, piece, fragment}
use Rattle.networks.specs.Paper.{assumed_of, promise_of, between, ass, guar, V_in, V_out, E, W, wired_into, cut_wire_into}
use Rattle.networks.specs.Covering.{InOne, Crosses, Covering}
use Rattle.networks.proofs.Laws.Boxes.{owned, own_fact, own_found, input_found}
use Rattle.networks.proofs.Laws.Pieces.{box_piece, edge_fragment}
use Rattle.networks.proofs.Laws.Formed.{Formed, sound_formed, feeds_leaves}
use Rattle.networks.proofs.Laws.Cutting.{Fits}
use Rattle.networks.proofs.Laws.Points.{own_not_input, At, at_every, there, into_feeds, no_cut_into, cut_feeds}

module _ {R P D : Type 0} (B : Bounds) (N : Network R P D) (S : Sheet R) (sound : Sound B N) (fits : Fits N S) where
  formed : Formed N
  formed = sound_formed B N sound

  at : (k u : ℕ) → At N S k formed fits.entered u
  at k = at_every N S k formed fits.entered

  -- an own box is in the fragment of its number, and in no other
  home : (u : ℕ) → owns N u ≡ true → W N S (number S u) u ≡ true
  home u t = and_i _ _ t (eq-eqb (number S u) (number S u) refl)

  inside : (k u : ℕ) → W N S k u ≡ true → number S u ≡ k
  inside k u e = eqb-true (number S u) k (and_r (owns N u) (eqb (number S u) k) e)

  own_inside : (k u : ℕ) → owns (fragment N S k) u ≡ true → W N S k u ≡ true
  own_inside k u e = sym (at k u).own_at ∙ e

  -- the promise of a box that a cut wire leaves is its note
  promise_noted : (u : ℕ) → owns N u ≡ true → leaves N S u ≡ true → (q : R) → guar N u ≡ some q → note S u ≡ some q
  promise_noted u t l q e =
      let f = owned N u t in
      subst (λ (i : ℕ). note S i ≡ some q) f.2
      (own_found N (λ (b : Own R D). leaves N S b.id ≡ true → (r : R) → b.promise ≡ some r → note S b.id ≡ some r) u f.0 fits.notes
      f.1 (ap (leaves N S) f.2 ∙ l) q (sym (ap promise_of f.1) ∙ e))

  -- a cut wire from u leads into fragment k
  module _ (k u : ℕ) (e : cut_wire_into N S k u ≡ true) where
    cut_own : owns N u ≡ true
    cut_own = go (owns N u) refl
      where
        go : (t : Bool) → owns N u ≡ t → t ≡ true
        go true q = refl
        go false q = absurd (false≢true (sym (no_cut_into N S k formed fits.entered u q) ∙ e))

    feeding : not (only k (number S u)) && feeds N S (only k) u ≡ true
    feeding = sym (cut_feeds N S k formed fits.entered u cut_own) ∙ e

    outside : only k (number S u) ≡ false
    outside = not-true (only k (number S u)) (and_l (not (only k (number S u))) (feeds N S (only k) u) feeding)

    left : leaves N S u ≡ true
    left = feeds_leaves N S formed (only k) u cut_own outside (and_r (not (only k (number S u))) (feeds N S (only k) u) feeding)

    crossed : Crosses S (fragment N S k) (fragment N S (number S u)) u
    crossed =
        let n = is_some_true (note S u) (own_fact N (λ (i : ℕ). is_some (note S i) ≡ true) u fits.entered cut_own) in
        record {
          route = n.0;
          noted = n.1;
          assumed = (at k u).ass_at (or_i_r (V_in N u && wired_into N S k u) (cut_wire_into N S k u) e)
              ∙ ap (λ (t : Bool). cond t (ass N u) (note S u)) (own_not_input (box N u) cut_own)
              ∙ n.1;
          promised = (at (number S u) u).guar_at (or_i_r (W N S (number S u) u && V_out N u) _ (and_i _ _ (home u cut_own) left))
              ∙ go (guar N u) refl ∙ n.1;
        }
      where
        go : (o : Option R) → guar N u ≡ o → cond (is_some o) o (note S u) ≡ note S u
        go none q = refl
        go (some r) q = sym (promise_noted u cut_own left r q)

  -- the wires of an edge
  edge_own : (u v : ℕ) → E N u v ≡ true → owns N v ≡ true
  edge_own u v e =
      let f = any_found (between u v) N.wires formed.joined e in
      ap (owns N) (sym (eqb-true f.0.to v (and_r (eqb f.0.from u) (eqb f.0.to v) f.2))) ∙ f.1.to_own

  edge_feeds : (u v : ℕ) → E N u v ≡ true → feeds N S (only (number S v)) u ≡ true
  unfolding feeds
  edge_feeds u v = any_mono _ _ N.wires (all_of N.wires (λ w h. and_i _ _ (and_l (eqb w.from u) (eqb w.to v) h)
      (eq-eqb _ _ (ap (number S) (eqb-true w.to v (and_r (eqb w.from u) (eqb w.to v) h))))))

  -- an input of the network has an edge out
  input_edge : (u : ℕ) → V_in N u ≡ true → (v : ℕ) × (E N u v ≡ true)
  input_edge u i =
      let f = any_found (λ (w : Wire). eqb w.from u) N.wires (any_here N.wires) (go (box N u) refl i) in
      (f.0.to, f.1 (between u f.0.to) (and_i _ _ f.2 (eq-eqb f.0.to _ refl)))
    where
      go : (o : Option (Box R D)) → box N u ≡ o → is_some (assumed_of o) ≡ true → sends N u ≡ true
      go none q h = absurd (false≢true h)
      go (some (own b)) q h = absurd (false≢true h)
      go (some (input a)) q h = ap (sends N) (sym (find_key box_id u N.boxes (input a) q))
          ∙ input_found N (λ (c : Input R). sends N c.id ≡ true) u a sound.inputs_used q

  output_own : (u : ℕ) → V_out N u ≡ true → owns N u ≡ true
  output_own u = go (box N u)
    where
      go : (o : Option (Box R D)) → is_some (promise_of o) ≡ true → is_own_box o ≡ true
      go none h = absurd (false≢true h)
      go (some (own b)) h = refl
      go (some (input a)) h = absurd (false≢true h)

  either_first : (w a b : Bool) → (w && a) || (w && b) ≡ true → w ≡ true
  either_first true a b e = refl
  either_first false a b e = e

  -- a box of fragment k that is no input of it
  box_inside : (k u : ℕ) → has_box (fragment N S k) u ≡ true → V_in (fragment N S k) u ≡ false → number S u ≡ k
  box_inside k u h f = inside k u (sym (or-false (W N S k u)) ∙ ap (λ (t : Bool). W N S k u || t) (sym f ∙ (at k u).input_at)
      ∙ sym (there N S k formed fits.entered u) ∙ h)

  module _ (Part : ℕ → Network R P D → Type 0) (is : (k : ℕ) (F : Network R P D) → Part k F → F ≡ fragment N S k)
      (part : (u : ℕ) → owns N u ≡ true → Part (number S u) (fragment N S (number S u))) where
    -- a test that the fragment of w meets, and no other
    in_one : (test : Network R P D → Bool) (w : ℕ) → owns N w ≡ true → test (fragment N S (number S w)) ≡ true
        → ((m : ℕ) → test (fragment N S m) ≡ true → number S w ≡ m) → InOne Part test
    in_one test w t e alone = (
      number S w,
      fragment N S (number S w),
      part w t,
      e,
      λ m G p h. let q = alone m (sym (ap test (is m G p)) ∙ h) in (sym q, is m G p ∙ ap (fragment N S) (sym q)),
    )

    kept_box : (k u : ℕ) → has_box (fragment N S k) u ≡ true → has_box N u ≡ true
    unfolding bind
    kept_box k u h = go (box N u) refl (ap is_box (sym (box_piece N S (only k) formed.rise u)) ∙ h)
      where
        go : (o : Option (Box R D)) → box N u ≡ o → is_box (bind o (piece N S (only k))) ≡ true → is_box o ≡ true
        go none q z = z
        go (some v) q z = refl

    pub parts_cover : Covering N S Part
    parts_cover = record {
      own_boxes_lem = λ u t. in_one (λ (F : Network R P D). owns F u) u t ((at (number S u) u).own_at ∙ home u t)
          (λ m h. inside m u (own_inside m u h));
      inputs = λ u i.
          let f = input_edge u i in
          let o = edge_own u f.0 f.1 in (
            number S f.0,
            fragment N S (number S f.0),
            part f.0 o,
            (at (number S f.0) u).input_at ∙ or_i_l _ _ (and_i _ _ i
                (into_feeds N S (number S f.0) formed fits.entered u ∙ edge_feeds u f.0 f.1)),
          );
      outputs = λ u e. let t = output_own u e in in_one (λ (F : Network R P D). V_out F u) u t
          ((at (number S u) u).output_at_lem ∙ or_i_l _ _ (and_i _ _ (home u t) e))
          (λ m h. inside m u (either_first (W N S m u) (V_out N u) (leaves N S u) (sym (at m u).output_at_lem ∙ h)));
      edges = λ u v e. in_one (λ (F : Network R P D). E F u v) v (edge_own u v e)
          (edge_fragment N S (only (number S v)) u v ∙ and_i _ _ (eq-eqb (number S v) _ refl) e)
          (λ m h. eqb-true (number S v) m (and_l (only m (number S v)) (E N u v) (sym (edge_fragment N S (only m) u v) ∙ h)));
      no_box_more = λ k F p. rw (is k F p) (kept_box k);
      no_edge_more = λ k F p. rw (is k F p) (λ u v e. and_r (only k (number S v)) (E N u v) (sym (edge_fragment N S (only k) u v) ∙ e));
      inputs_promised = λ k F p. rw (is k F p) (inputs_met k);
      edges_crossed = λ k m F G p q. rw (is k F p, is m G q) (edges_met k m);
      shared = λ k m F G p q. rw (is k F p, is m G q) (only_inputs k m);
    }
      where
        inputs_met : (k u : ℕ) → V_in (fragment N S k) u ≡ true → V_in N u ≡ false
            → (m : ℕ) × (G : Network R P D) × Part m G × (owns G u ≡ true) × (m ≡ k → ⊥) × Crosses S (fragment N S k) G u
        inputs_met k u i n =
            let c : cut_wire_into N S k u ≡ true = or_second (V_in N u && wired_into N S k u) (cut_wire_into N S k u)
            (ap (λ (t : Bool). t && wired_into N S k u) n) (sym (at k u).input_at ∙ i) in
            let t = cut_own k u c in (
              number S u,
              fragment N S (number S u),
              part u t,
              (at (number S u) u).own_at ∙ home u t,
              eqb-false (number S u) k (outside k u c),
              crossed k u c,
            )

        edges_met : (k m : ℕ) → (k ≡ m → ⊥) → (u v : ℕ) → E N u v ≡ true → owns (fragment N S m) u ≡ true → owns (fragment N S k) v ≡ true
            → Crosses S (fragment N S k) (fragment N S m) u
        edges_met k m apart u v e o p =
            let from = own_inside m u o in
            let to = inside k v (own_inside k v p) in
            subst (λ (j : ℕ). Crosses S (fragment N S k) (fragment N S j) u) (inside m u from) (crossed k u
            (cut_feeds N S k formed fits.entered u (and_l (owns N u) (eqb (number S u) m) from)
            ∙ and_i _ _ (ap not (ne_eqb (number S u) k (λ q. apart (sym q ∙ inside m u from))))
            (subst (λ (j : ℕ). feeds N S (only j) u ≡ true) to (edge_feeds u v e))))

        only_inputs : (k m : ℕ) → (k ≡ m → ⊥) → (u : ℕ) → has_box (fragment N S k) u ≡ true → has_box (fragment N S m) u ≡ true
            → V_in (fragment N S k) u || V_in (fragment N S m) u ≡ true
        only_inputs k m apart u a b = go (V_in (fragment N S k) u) refl (V_in (fragment N S m) u) refl
          where
            go : (s : Bool) → V_in (fragment N S k) u ≡ s → (t : Bool) → V_in (fragment N S m) u ≡ t → s || t ≡ true
            go true q t r = refl
            go false q true r = refl
            go false q false r = absurd (apart (sym (box_inside k u a q) ∙ box_inside m u b r))

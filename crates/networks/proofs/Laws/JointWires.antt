-- The wires of the joint network of two. Where no box is owned by both no wire is in both, for wires stand by their to ends, which are own boxes.
--     wires_comm, any_wires     all wires of both, whichever stands first
--     wires_into_first          an own box keeps its wires
--     length_wires              how many there are
use mathlib.Core.Path.{◌≡◌, refl, sym, ap, ◌∙◌}
use mathlib.Core.Bool.{Bool, true, false, cond, ◌||◌, false≢true}
use mathlib.Core.Logic.{⊎_elim}
use mathlib.Core.Option.{Option, none, some}
use mathlib.Core.List.{List, [], ◌∷◌}
use Prim.Native.Nat.{ℕ, ◌+◌, ◌<◌}
use native.Mathlib.Omega.{arith}
use lib.Dec.{eqb, ltb}
use lib.ListN.{length}
use borrow.Author.Tests.{ne_eqb}
use Rattle.lists.specs.All.{All, any}
use Rattle.lists.proofs.All.{all_map, any_found, any_here, false_any}
use Rattle.lists.specs.Answer.{is_some}
use Rattle.lists.specs.Filter.{filter}
use Rattle.lists.proofs.Filter.{filter_none, length_none}
use Rattle.lists.specs.Sorted.{Rises, find}
use Rattle.lists.proofs.Sorted.{find_key, find_all, find_any, find_self}
use Rattle.lists.proofs.Test.{or_i_l, or_i_r, same_test, yes_or_no, or_second}
use Rattle.lists.specs.Union.{either, into, union}
use Rattle.lists.proofs.Union.{find_union, union_comm, length_union}
use Rattle.networks.specs.Network.{Box, Wire, Network, ids, wire_key, box_id, is_box, box, owns, wires_into}
use Rattle.networks.specs.Sound.{Bounds, Joined, Sound}
use Rattle.networks.specs.Join.{first_wire, joining}
use Rattle.networks.proofs.Laws.Joins.{OwnOnce, wires_both}

module _ {R P D : Type 0} (N M : Network R P D) where
  find_wire : Rises wire_key 0 N.wires → Rises wire_key 0 M.wires → (k : ℕ)
      → find wire_key k (joining N M).wires ≡ either first_wire (find wire_key k N.wires) (find wire_key k M.wires)
  unfolding joining
  find_wire rise rise' k = find_union wire_key first_wire (λ w v e. refl) k 0 N.wires M.wires rise rise'

  -- the wires of the first are there
  first_any : Rises wire_key 0 N.wires → Rises wire_key 0 M.wires → (p : Wire → Bool) → any p N.wires ≡ true → any p (joining N M).wires ≡ true
  first_any rise rise' p e =
      let f = any_found p N.wires (find_self wire_key 0 N.wires rise) e in
      find_any wire_key p (wire_key f.0) (joining N M).wires f.0
      (find_wire rise rise' (wire_key f.0) ∙ ap (λ (o : Option Wire). either first_wire o (find wire_key (wire_key f.0) M.wires)) f.1
      ∙ go f.0 (find wire_key (wire_key f.0) M.wires)) f.2
    where
      go : (w : Wire) (o : Option Wire) → either first_wire (some w) o ≡ some w
      go w none = refl
      go w (some v) = refl

-- wires of the second that fail a test do not show among those that meet it
filter_into : (p : Wire → Bool) (x : Wire) (xs : List Wire) (rest : List Wire → List Wire)
    → ((zs : List Wire) → All (λ (w : Wire). p w ≡ false) zs → filter p (rest zs) ≡ filter p xs)
    → (ys : List Wire) → All (λ (w : Wire). p w ≡ false) ys → filter p (into wire_key first_wire x rest ys) ≡ filter p (x ∷ xs)
filter_into p x xs rest r [] h = ap (λ (zs : List Wire). cond (p x) (x ∷ zs) zs) (r [] tt)
filter_into p x xs rest r (y ∷ ys) h = go (ltb (wire_key x) (wire_key y)) (ltb (wire_key y) (wire_key x)) (filter_into p x xs rest r ys h.1)
  where
    head : (zs : List Wire) → All (λ (w : Wire). p w ≡ false) zs → filter p (x ∷ rest zs) ≡ filter p (x ∷ xs)
    head zs k = ap (λ (ts : List Wire). cond (p x) (x ∷ ts) ts) (r zs k)

    go : (s t : Bool) → filter p (into wire_key first_wire x rest ys) ≡ filter p (x ∷ xs)
        → filter p (cond s (x ∷ rest (y ∷ ys)) (cond t (y ∷ into wire_key first_wire x rest ys) (x ∷ rest ys))) ≡ filter p (x ∷ xs)
    go true t e = head (y ∷ ys) h
    go false true e = rw h.0 e
    go false false e = head ys h.1

filter_first : (p : Wire → Bool) (xs ys : List Wire) → All (λ (w : Wire). p w ≡ false) ys → filter p (union wire_key first_wire xs ys) ≡ filter p xs
filter_first p [] ys h = filter_none p ys (false_any p ys h)
filter_first p (x ∷ xs) ys h = filter_into p x xs (λ (zs : List Wire). union wire_key first_wire xs zs) (λ zs k. filter_first p xs zs k) ys h

-- the sender of a wire has an id
from_id : {R P D : Type 0} (B : Bounds) (N : Network R P D) → Sound B N → (w : Wire) → Joined N w → w.from < ids
from_id {R} {P} {D} B N sound w h = go (box N w.from) refl h.from_there
  where
    go : (o : Option (Box R D)) → box N w.from ≡ o → is_box o ≡ true → w.from < ids
    go none q t = absurd (false≢true t)
    go (some v) q t =
        let e : box_id v ≡ w.from = find_key box_id w.from N.boxes v q in
        let l : box_id v < ids = find_all box_id (λ (u : Box R D). box_id u < ids) w.from N.boxes v sound.ids_within q in
        omega arith

-- no box is owned by both
module _ {R P D : Type 0} (B : Bounds) (N M : Network R P D) (sound : Sound B N) (sound' : Sound B M) (once : OwnOnce N M) where
  -- two wires with one key have one to end
  no_wire_twice : (k : ℕ) (w v : Wire) → find wire_key k N.wires ≡ some w → find wire_key k M.wires ≡ some v → ⊥
  no_wire_twice k w v p q =
      let h = find_all wire_key (Joined N) k N.wires w sound.wires_joined p in
      let j = find_all wire_key (Joined M) k M.wires v sound'.wires_joined q in
      let l = from_id B N sound w h in
      let m = from_id B M sound' v j in
      let s = find_key wire_key k N.wires w p in
      let t = find_key wire_key k M.wires v q in
      let e : w.to ≡ v.to = omega arith in
      false≢true (sym (once w.to h.to_own) ∙ ap (owns M) e ∙ j.to_own)

  pub wires_comm : (joining N M).wires ≡ (joining M N).wires
  unfolding joining
  wires_comm = union_comm wire_key first_wire (λ w v e. refl) 0 N.wires M.wires sound.wires_rise sound'.wires_rise
      (λ k w v p q. absurd (no_wire_twice k w v p q))

  -- every wire of either is there, and no other
  pub any_wires : (p : Wire → Bool) → any p (joining N M).wires ≡ any p N.wires || any p M.wires
  any_wires p = same_test _ _ forth back
    where
      forth : any p (joining N M).wires ≡ true → any p N.wires || any p M.wires ≡ true
      forth e =
          let f = any_found p (joining N M).wires (wires_both N M (λ (w : Wire). p w ≡ true → any p N.wires || any p M.wires ≡ true)
          (all_map N.wires (λ w g t. or_i_l (any p N.wires) (any p M.wires) (g p t)) (any_here N.wires))
          (all_map M.wires (λ w g t. or_i_r (any p N.wires) (any p M.wires) (g p t)) (any_here M.wires))) e in
          f.1 f.2

      back : any p N.wires || any p M.wires ≡ true → any p (joining N M).wires ≡ true
      back e = ⊎_elim
          (λ (t : any p N.wires ≡ true). first_any N M sound.wires_rise sound'.wires_rise p t)
          (λ (t : any p N.wires ≡ false). ap (any p) wires_comm ∙ first_any M N sound'.wires_rise sound.wires_rise p
          (or_second (any p N.wires) (any p M.wires) t e))
          (yes_or_no (any p N.wires))

  -- an own box of the first keeps its wires
  pub wires_into_first : (i : ℕ) → owns N i ≡ true → wires_into (joining N M) i ≡ wires_into N i
  unfolding joining
  wires_into_first i t = filter_first (λ (w : Wire). eqb w.to i) N.wires M.wires
      (all_map M.wires (λ w h. ne_eqb w.to i (λ e. false≢true (sym (once i t) ∙ ap (owns M) (sym e) ∙ h.to_own))) sound'.wires_joined)

  pub length_wires : length (joining N M).wires ≡ length N.wires + length M.wires
  unfolding joining
  length_wires =
      let e = length_union wire_key first_wire 0 N.wires M.wires sound.wires_rise sound'.wires_rise in
      let z = (length_none (λ (w : Wire). is_some (find wire_key (wire_key w) M.wires)) N.wires).1
      (all_map N.wires (λ w p. alone w p (find wire_key (wire_key w) M.wires) refl) (find_self wire_key 0 N.wires sound.wires_rise)) in
      omega arith
    where
      alone : (w : Wire) → find wire_key (wire_key w) N.wires ≡ some w → (o : Option Wire) → find wire_key (wire_key w) M.wires ≡ o → is_some o ≡ false
      alone w p none q = refl
      alone w p (some v) q = absurd (no_wire_twice (wire_key w) w v p q)

-- What a writer laid down in a lent buffer: over its start (`over`), or at an offset (`sets` of lib.Seq).
--     placed_.., over_..                  a run over the start, where it fits
--     Laid, laid_..                       what a writer knows between two parts: one part more, a part by a writer that is lent the rest, the end
--     lent_back                           the whole, once a rest that was lent has come back
--     sets_append, stored_..              runs at an offset, one behind another
use mathlib.Core.Path.{◌≡◌, refl, ◌∙◌, sym, ap}
use mathlib.Core.List.{List, [], ◌++◌, append_assoc, append-nil, ◌∷◌}
use Prim.Native.Nat.{ℕ, suc, ◌+◌, ◌-◌, ◌≤◌, ◌<◌}
use native.Mathlib.Omega.{arith}
use native.Mathlib.Nat.{zero-add, add-zero, add-suc, suc-add}
use borrow.Author.Tests.{le-leb, lt-leb}
use lib.ListN.{length, take, drop, set, length-append, length-take, length-drop, drop_of_length-le}
use lib.Seq.{take_all, take-append_seam, drop-drop, drop-append-add, sets, sets-eq}
use Rattle.lists.specs.Laid.{over, placed}

pub placed_fits : (w xs out : List ℕ) → length w ≤ length xs → out ≡ over w xs → out ≡ placed w xs
unfolding placed
placed_fits w xs out h e = rw (le-leb (length w) (length xs) h) e

pub placed_short : (w xs out : List ℕ) → length xs < length w → out ≡ xs → out ≡ placed w xs
unfolding placed
placed_short w xs out h e = rw (lt-leb (length w) (length xs) h) e

pub over_none : (xs : List ℕ) → over [] xs ≡ xs
unfolding over
over_none xs = refl

pub length_over : (w xs : List ℕ) → length w ≤ length xs → length (over w xs) ≡ length xs
unfolding over
length_over w xs h = simp (length-append, length-drop) (omega arith)

pub over_append : (xs w v : List ℕ) → length w + length v ≤ length xs → take (length w) (over w xs) ++ (v ++ drop (length w + length v) (over w xs)) ≡ over (w ++ v) xs
unfolding over
over_append xs w v h =
    let e : drop (length w + length v) (w ++ drop (length w) xs) ≡ drop (length w + length v) xs =
    drop-append-add w (drop (length w) xs) (length v) ∙ drop-drop (length v) (length w) xs in
    rw (take-append_seam, e, length-append, append_assoc)

-- Between two parts: what is written stands at the start of out, `at` is behind it, and with what is left to write it makes up all.
pub record Laid (out₀ out : List ℕ) (at : ℕ) (rest all : List ℕ) : Type 0 where
  pub written : List ℕ
  pub is : out ≡ over written out₀
  pub there : at ≡ length written
  pub left : written ++ rest ≡ all
  pub long : length out ≡ length out₀
  pub count : at + length rest ≡ length all

-- the whole, once a part that was lent from `at` on has come back with w over its start
pub lent_back : (xs w : List ℕ) (at : ℕ) → at + length w ≤ length xs
    → take at xs ++ (over w (take (length xs - at) (drop at xs)) ++ drop (length xs - at) (drop at xs)) ≡ take at xs ++ (w ++ drop (at + length w) xs)
unfolding over
lent_back xs w at h =
    let d : length (drop at xs) ≡ length xs - at = length-drop at xs in
    rw (take_all (length xs - at) (drop at xs) (omega arith), drop_none, append-nil, drop-drop)
  where
    drop_none : drop (length xs - at) (drop at xs) ≡ []
    drop_none = drop_of_length-le (drop at xs) {i = length xs - at} (simp length-drop (omega arith))

module _ (out₀ out : List ℕ) (at : ℕ) (part rest all : List ℕ) (room : length all ≤ length out₀) (l : Laid out₀ out at (part ++ rest) all) where
  -- the next part fits in what remains
  pub lend_fits : length part ≤ length (take (length out - at) (drop at out))
  lend_fits = simp (length-take, length-drop) (omega (arith, l.long, l.count, length-append part rest))

  pub laid_put : (out' : List ℕ) (at' : ℕ)
      → out' ≡ take at out ++ (over part (take (length out - at) (drop at out)) ++ drop (length out - at) (drop at out))
      → at' ≡ at + length part
      → Laid out₀ out' at' rest all
  laid_put out' at' e f =
      let len : at + (length part + length rest) ≡ length all = ap (λ (m : ℕ). at + m) (sym (length-append part rest)) ∙ l.count in
      let t : at ≡ length l.written = l.there in
      let g : out' ≡ take at out ++ (part ++ drop (at + length part) out) = e ∙ lent_back out part at (omega (arith, l.long)) in
      let i : out' ≡ over (l.written ++ part) out₀ = g ∙ (rw (t, l.is) (over_append out₀ l.written part (omega arith))) in
      let w : length (l.written ++ part) ≡ length l.written + length part = length-append l.written part in
      record {
        written = l.written ++ part;
        is = i;
        there = f ∙ (rw (t, length-append));
        left = append_assoc l.written part rest ∙ l.left;
        long = ap length i ∙ length_over (l.written ++ part) out₀ (omega arith);
        count = omega arith;
      }

  -- what a writer that was lent the rest gives back, with its length r
  pub laid_lend : (back : List ℕ) (r : ℕ) → r ≡ length part → back ≡ over part (take (length out - at) (drop at out))
      → Laid out₀ (take at out ++ (back ++ drop (length out - at) (drop at out))) (at + r) rest all
  laid_lend back r e f = laid_put _ (at + r) (rw f) (rw e)

-- a first part that was laid over the start
pub laid_head : (out₀ out head rest all : List ℕ) (at : ℕ) → all ≡ head ++ rest → at ≡ length head → out ≡ over head out₀ → length all ≤ length out₀ → Laid out₀ out at rest all
laid_head out₀ out head rest all at is there e h =
    let f : length all ≡ length head + length rest = ap length is ∙ length-append head rest in
    record { written = head; is = e; there = there; left = sym is; long = ap length e ∙ length_over head out₀ (omega arith); count = omega arith }

-- what is laid ends within the buffer
pub laid_within : (out₀ out rest all : List ℕ) (at : ℕ) → length all ≤ length out₀ → Laid out₀ out at rest all → at ≤ length out
laid_within out₀ out rest all at room l = omega (arith, l.long, l.count)

-- the last part, with nothing behind it
pub laid_last : (out₀ out : List ℕ) (at : ℕ) (part all : List ℕ) → Laid out₀ out at part all → Laid out₀ out at (part ++ []) all
laid_last out₀ out at part all l = rw append-nil l

pub laid_done : (out₀ out : List ℕ) (at : ℕ) (rest all : List ℕ) → Laid out₀ out at rest all → rest ≡ [] → (at ≡ length all) × (out ≡ over all out₀)
laid_done out₀ out at rest all l e =
    let f : l.written ≡ all = sym (append-nil l.written) ∙ (ap (λ (r : List ℕ). l.written ++ r) (sym e) ∙ l.left) in
    (l.there ∙ ap length f, l.is ∙ ap (λ (w : List ℕ). over w out₀) f)

pub sets_append : (l : List ℕ) (i : ℕ) (xs ys : List ℕ) → sets l i (xs ++ ys) ≡ sets (sets l i xs) (i + length xs) ys
sets_append l i [] ys = ap (λ (k : ℕ). sets l k ys) (sym (add-zero i))
sets_append l i (x ∷ xs) ys =
    sets_append (set l i x) (suc i) xs ys
    ∙ ap (λ (k : ℕ). sets (sets (set l i x) (suc i) xs) k ys) (suc-add i (length xs) ∙ sym (add-suc i (length xs)))

-- a run behind a run
pub stored_on : (out half out' : List ℕ) (at next : ℕ) (xs ys : List ℕ) → half ≡ sets out at xs → next ≡ at + length xs → out' ≡ sets half next ys
    → out' ≡ sets out at (xs ++ ys)
stored_on out half out' at next xs ys p n q = q ∙ rw (p, n) (sym (sets_append out at xs ys))

-- a run at the start
pub stored_over : (out out' w : List ℕ) → length w ≤ length out → out' ≡ sets out 0 w → out' ≡ over w out
unfolding over
stored_over out out' w h e = e ∙ sets-eq w out 0 (omega arith) ∙ ap (λ (k : ℕ). w ++ drop k out) (zero-add (length w))

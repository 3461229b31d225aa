-- Runs of bytes, as the code looks at them and stores them.
--     or_none, bits_none         a run of zeros, told by the bits that its bytes have between them
--     run_put                    a run, laid over a part of the buffer that is as long
--     part_long, part_put        a part of another slice
use mathlib.Core.Path.{◌≡◌, refl, sym, ap, ◌∙◌}
use mathlib.Core.Bool.{Bool, ◌&&◌}
use mathlib.Core.List.{List, ◌++◌, append_assoc}
use Prim.Native.Nat.{ℕ, zero, suc, ◌+◌, ◌-◌, ◌≤◌}
use native.Mathlib.Nat.{not-suc-le-zero}
use native.Mathlib.Omega.{arith}
use lib.Bits.{bit_and, bit_or, or_add_and, and_le_r}
use lib.Dec.{eqb}
use native.Mathlib.Numerals.{add-one}
use lib.ListN.{length, get_or, take, drop, length-drop}
use lib.Seq.{sets, length-take-le, sets-eq, drop-drop}
use borrow.Author.Tests.{ne_eqb}
use borrow.Rule.Slice.PartMut.{put_mid}
use Rattle.lists.proofs.First.{every_yes, every_next}
use Rattle.std.specs.List.{fold}
use Rattle.std.proofs.lemmas.List.{get_or-drop}
use Rattle.std.proofs.lemmas.List.Sums.{fold_more}
use Rattle.numbers.specs.Zeros.{zeros}

-- two numbers have no bit between them where neither has one
pub or_none : (a b : ℕ) → eqb (bit_or a b) 0 ≡ eqb a 0 && eqb b 0
or_none zero b = refl
or_none (suc a) b =
    let sum : bit_or (suc a) b + bit_and (suc a) b ≡ suc a + b = or_add_and (suc a) b in
    let part : bit_and (suc a) b ≤ b = and_le_r (suc a) b in
    ne_eqb (bit_or (suc a) b) 0 (λ q. omega arith) ∙ ap (λ (t : Bool). t && eqb b 0) (sym (ne_eqb (suc a) 0 (λ q. omega arith)))

-- the bits that n bytes from an offset on have between them are none where all of them are zero
pub bits_none : (b : List ℕ) (o n : ℕ) → o + n ≤ length b → eqb (fold bit_or 0 (take n (drop o b))) 0 ≡ zeros b o n
unfolding zeros
bits_none b o zero h = sym (every_yes _ 0 (λ k l. absurd (not-suc-le-zero l)))
bits_none b o (suc n) h =
    let x = get_or b (o + n) 0 in
    let next : fold bit_or 0 (take (n + 1) (drop o b)) ≡ bit_or (fold bit_or 0 (take n (drop o b))) x =
    fold_more bit_or 0 (drop o b) n 0 (simp length-drop (omega arith)) ∙ ap (bit_or (fold bit_or 0 (take n (drop o b)))) (get_or-drop o b n 0) in
    rw (← add-one n)
    (ap (λ (y : ℕ). eqb y 0) next
    ∙ or_none (fold bit_or 0 (take n (drop o b))) x
    ∙ ap (λ (t : Bool). t && eqb x 0) (bits_none b o n (omega arith))
    ∙ sym (every_next _ n))

-- a run laid over a part of the buffer that is as long is a store of the run at the part's offset
pub run_put : (out back w : List ℕ) (at n : ℕ) → length w ≡ n → at + n ≤ length out → back ≡ w → put_mid at (at + n - at) out back ≡ sets out at w
run_put out back w at n long h e =
    let stays : at + n - at ≡ n = omega arith in
    let fits : at + length w ≤ length out = omega (arith, long) in
    ap (λ (k : ℕ). put_mid at k out back) stays
    ∙ ap (λ (l : List ℕ). put_mid at n out l) e
    ∙ ap (λ (l : List ℕ). take at out ++ (w ++ l)) (drop-drop n at out ∙ ap (λ (k : ℕ). drop k out) (let k : at + n ≡ at + length w = omega (arith, long) in k))
    ∙ sym (sets-eq w out at fits ∙ append_assoc (take at out) w (drop (at + length w) out))

pub part_long : (s : List ℕ) (a n : ℕ) → a + n ≤ length s → length (take n (drop a s)) ≡ n
part_long s a n h = length-take-le n (drop a s) (simp length-drop (omega arith))

-- a part of another slice, laid over a part that is as long
pub part_put : (out back s : List ℕ) (at a n : ℕ) → a + n ≤ length s → at + n ≤ length out → back ≡ take (a + n - a) (drop a s)
    → put_mid at (at + n - at) out back ≡ sets out at (take n (drop a s))
part_put out back s at a n h g e =
    let same : a + n - a ≡ n = omega arith in
    run_put out back (take n (drop a s)) at n (part_long s a n h) g (rw same at e)

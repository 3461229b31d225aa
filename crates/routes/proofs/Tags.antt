-- Masks in words: what need, bar, clear and set mean for a single tag. Tag i of a mask is its bit i, for i from 0 to 15.
--     tag_and, tag_or, tag_not     a tag of two masks together, and of all tags but those of a mask
--     tags_ext                     masks with the same tags are the same number
--     need_tags, bar_tags          need and bar
--     tag_new                      clear and set
use mathlib.Core.Path.{◌≡◌, refl, sym, ap, ◌∙◌}
use mathlib.Core.Bool.{Bool, true, false, not, xor, ◌&&◌, ◌||◌, false≢true}
use mathlib.Core.Logic.{◌↔◌}
use Prim.Native.Nat.{ℕ, zero, suc, ◌-◌, ◌/◌, ◌%◌, ◌^◌, ◌<◌}
use native.Mathlib.Nat.{pow-succ', div-div-eq-div-mul, zero-div, mod-eq_of_lt}
use native.Mathlib.Omega.{arith}
use lib.Bits.{bit_and, bit_or, bit_xor, and_shr, or_shr, xor_shr, and_mod, or_mod, xor_mod, and_le_r, and_mask, xor_add_and}
use lib.Dec.{eqb}
use borrow.Author.Tests.{eqb-true, eq-eqb, not-false}
use Rattle.lists.specs.First.{first_bad, every}
use Rattle.lists.proofs.First.{every_all}
use Rattle.lists.proofs.Test.{and_l, and_absorb}
use Rattle.routes.specs.Carry.{lacks, barred, new_tags}
use Rattle.routes.specs.declared.Fields.{Fields}
use Rattle.routes.specs.declared.Policy.{Policy}

-- a mask holds tag i
unfoldable pub tag : ℕ → ℕ → Bool
tag i mask = eqb (mask / 2 ^ i % 2) 1

-- an operation on masks that works tag by tag, told by what it does to single bits
module _ (op : ℕ → ℕ → ℕ) (f : Bool → Bool → Bool)
    (shr : (a b k : ℕ) → op a b / 2 ^ k ≡ op (a / 2 ^ k) (b / 2 ^ k))
    (low : (a b k : ℕ) → op a b % 2 ^ k ≡ op (a % 2 ^ k) (b % 2 ^ k))
    (on : (f (eqb 0 1) (eqb 0 1) ≡ eqb (op 0 0) 1) × (f (eqb 0 1) (eqb 1 1) ≡ eqb (op 0 1) 1) × (f (eqb 1 1) (eqb 0 1) ≡ eqb (op 1 0) 1) × (f (eqb 1 1) (eqb 1 1) ≡ eqb (op 1 1) 1))
  where
    on_bits : (x y : ℕ) → x < 2 → y < 2 → eqb (op x y) 1 ≡ f (eqb x 1) (eqb y 1)
    on_bits zero zero h k = sym on.0
    on_bits zero (suc zero) h k = sym on.1
    on_bits (suc zero) zero h k = sym on.2
    on_bits (suc zero) (suc zero) h k = sym on.3
    on_bits (suc (suc x)) y h k = absurd (omega arith)
    on_bits zero (suc (suc y)) h k = absurd (omega arith)
    on_bits (suc zero) (suc (suc y)) h k = absurd (omega arith)

    tag_by_tag : (i a b : ℕ) → tag i (op a b) ≡ f (tag i a) (tag i b)
    unfolding tag
    tag_by_tag i a b =
        ap (λ (n : ℕ). eqb (n % 2) 1) (shr a b i)
        ∙ ap (λ (n : ℕ). eqb n 1) (low (a / 2 ^ i) (b / 2 ^ i) 1)
        ∙ on_bits (a / 2 ^ i % 2) (b / 2 ^ i % 2) (omega arith) (omega arith)

pub tag_and : (i a b : ℕ) → tag i (bit_and a b) ≡ tag i a && tag i b
tag_and = tag_by_tag bit_and ◌&&◌ and_shr and_mod (refl, refl, refl, refl)

pub tag_or : (i a b : ℕ) → tag i (bit_or a b) ≡ tag i a || tag i b
tag_or = tag_by_tag bit_or ◌||◌ or_shr or_mod (refl, refl, refl, refl)

tag_xor : (i a b : ℕ) → tag i (bit_xor a b) ≡ xor (tag i a) (tag i b)
unfolding xor
tag_xor = tag_by_tag bit_xor xor xor_shr xor_mod (refl, refl, refl, refl)

-- 65,535 holds every tag
full : (i : ℕ) → i < 16 → tag i 65535 ≡ true
unfolding every first_bad tag
full i h = every_all (λ k. tag k 65535) 16 computed i h
  where
    computed : every (λ k. tag k 65535) 16 ≡ true
    computed = refl

pub tag_not : (i mask : ℕ) → i < 16 → mask < 65536 → tag i (65535 - mask) ≡ not (tag i mask)
unfolding xor
tag_not i mask h m =
    let masked : bit_and mask 65535 ≡ mask = and_mask mask 16 ∙ mod-eq_of_lt m in
    let turned : 65535 - mask ≡ bit_xor mask 65535 = omega (arith, xor_add_and mask 65535) in
    ap (tag i) turned ∙ tag_xor i mask 65535 ∙ ap (xor (tag i mask)) (full i h) ∙ other (tag i mask)
  where
    other : (t : Bool) → xor t true ≡ not t
    other true = refl
    other false = refl

-- masks below 2 ^ k with the same tags are the same number
tag_half : (i a : ℕ) → tag i (a / 2) ≡ tag (suc i) a
unfolding tag
tag_half i a = ap (λ (n : ℕ). eqb (n % 2) 1) (div-div-eq-div-mul a 2 (2 ^ i) ∙ ap (◌/◌ a) (sym (pow-succ' 2 i)))

bit_same : (x y : ℕ) → x < 2 → y < 2 → eqb x 1 ≡ eqb y 1 → x ≡ y
bit_same zero zero h k e = refl
bit_same zero (suc zero) h k e = absurd (false≢true e)
bit_same (suc zero) zero h k e = absurd (false≢true (sym e))
bit_same (suc zero) (suc zero) h k e = refl
bit_same (suc (suc x)) y h k e = absurd (omega arith)
bit_same zero (suc (suc y)) h k e = absurd (omega arith)
bit_same (suc zero) (suc (suc y)) h k e = absurd (omega arith)

odd_same : (a b : ℕ) → tag 0 a ≡ tag 0 b → a % 2 ≡ b % 2
unfolding tag
odd_same a b e = let q : a / 1 % 2 ≡ b / 1 % 2 = bit_same (a / 1 % 2) (b / 1 % 2) (omega arith) (omega arith) e in omega arith

pub tags_ext : (k a b : ℕ) → a < 2 ^ k → b < 2 ^ k → ((i : ℕ) → i < k → tag i a ≡ tag i b) → a ≡ b
tags_ext zero a b h l e = omega arith
tags_ext (suc k) a b h l e =
    let p = pow-succ' 2 k in
    let high : a / 2 ≡ b / 2 = tags_ext k (a / 2) (b / 2) (omega arith) (omega arith) (λ i m. tag_half i a ∙ e (suc i) (omega arith) ∙ sym (tag_half i b)) in
    let low : a % 2 ≡ b % 2 = odd_same a b (e 0 (omega arith)) in
    omega arith

tag_zero : (i : ℕ) → tag i 0 ≡ false
unfolding tag
tag_zero i = ap (λ (n : ℕ). eqb (n % 2) 1) (zero-div (2 ^ i))

-- every tag of b is one of a
holds_all : (a b : ℕ) → b < 65536 → (bit_and a b ≡ b) ↔ ((i : ℕ) → i < 16 → tag i b ≡ true → tag i a ≡ true)
holds_all a b h = (
  λ e i l t. and_l (tag i a) (tag i b) (sym (tag_and i a b) ∙ ap (tag i) e ∙ t),
  λ f. tags_ext 16 (bit_and a b) b (let l = and_le_r a b in omega arith) h (λ i l. tag_and i a b ∙ and_absorb (tag i a) (tag i b) (f i l)),
)

-- no tag of b is one of a
holds_no : (a b : ℕ) → b < 65536 → (bit_and a b ≡ 0) ↔ ((i : ℕ) → i < 16 → tag i b ≡ true → tag i a ≡ false)
holds_no a b h = (
  λ e i l t. alone (tag i a) (tag i b) t (sym (tag_and i a b) ∙ ap (tag i) e ∙ tag_zero i),
  λ f. tags_ext 16 (bit_and a b) 0 (let l = and_le_r a b in omega arith) (omega arith) (λ i l. tag_and i a b ∙ none (tag i a) (tag i b) (f i l) ∙ sym (tag_zero i)),
)
  where
    alone : (x y : Bool) → y ≡ true → x && y ≡ false → x ≡ false
    alone true y p q = sym (sym q ∙ p)
    alone false y p q = refl

    none : (x y : Bool) → (y ≡ true → x ≡ false) → x && y ≡ false
    none true true g = g refl
    none true false g = refl
    none false y g = refl

-- A route lacks no tag of need exactly when it holds each tag that need holds.
pub need_tags : (p : Policy) (f : Fields) → p.need < 65536 → (lacks p f ≡ false) ↔ ((i : ℕ) → i < 16 → tag i p.need ≡ true → tag i f.tags ≡ true)
unfolding lacks
need_tags p f h = (
  λ e. (holds_all f.tags p.need h).0 (eqb-true _ _ (not-false _ e)),
  λ g. ap not (eq-eqb _ _ ((holds_all f.tags p.need h).1 g)),
)

-- A route is not barred exactly when it holds no tag that bar holds.
pub bar_tags : (p : Policy) (f : Fields) → p.bar < 65536 → (barred p f ≡ false) ↔ ((i : ℕ) → i < 16 → tag i p.bar ≡ true → tag i f.tags ≡ false)
unfolding barred
bar_tags p f h = (
  λ e. (holds_no f.tags p.bar h).0 (eqb-true _ _ (not-false _ e)),
  λ g. ap not (eq-eqb _ _ ((holds_no f.tags p.bar h).1 g)),
)

-- Behind the wire a route holds a tag exactly when set holds it, or the route held it and clear does not hold it.
pub tag_new : (p : Policy) (tags i : ℕ) → i < 16 → p.clear < 65536 → tag i (new_tags p tags) ≡ (tag i tags && not (tag i p.clear)) || tag i p.set
unfolding new_tags
tag_new p tags i h c =
    tag_or i (bit_and tags (65535 - p.clear)) p.set
    ∙ ap (λ (t : Bool). t || tag i p.set) (tag_and i tags (65535 - p.clear) ∙ ap (◌&&◌ (tag i tags)) (tag_not i p.clear h c))

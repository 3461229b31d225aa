-- A policy written and read back, and read and written back: its codec.
-- The bytes that it takes for formed are those that `policy_formed` accepts.
use mathlib.Core.Path.{◌≡◌, refl, sym, ap, ◌∙◌}
use mathlib.Core.Bool.{Bool, true, false, cond, false≢true}
use mathlib.Core.List.{List}
use Prim.Native.Nat.{ℕ, ◌+◌, ◌≤◌, ◌<◌}
use native.Mathlib.Omega.{arith}
use lib.Dec.{eqb, leb}
use lib.ListN.{get_or}
use borrow.Author.Tests.{eqb-true, leb-true, le-leb}
use Rattle.lists.proofs.Codec.{Codec, byte, pair, named, restated}
use Rattle.lists.specs.Bytes.{Bytes}
use Rattle.lists.proofs.Test.{and_l, and_r, and_i}
use Rattle.numbers.specs.BigEndian.{u16_at, u16_bytes}
use Rattle.numbers.proofs.Codecs.{u16, u16_below}
use Rattle.routes.specs.Form.{policy_at, policy_bytes, preference_formed, policy_formed}
use Rattle.routes.specs.declared.Policy.{Policy}

-- a policy: seven numbers, the flag a byte of 0 or 1, and at least 1 added
abbrev pub PolicyFits : Policy → Type 0
PolicyFits p =
    (p.need < 65536) × (p.bar < 65536) × (p.clear < 65536) × (p.set < 65536) × (p.flag ≡ false → p.preference ≡ 0) × (p.preference < 65536) × (p.added < 65536) × (1 ≤ p.added)

abbrev pub Seven : Type 0
Seven = ℕ × (ℕ × (ℕ × (ℕ × (ℕ × (ℕ × ℕ)))))

abbrev pub seven : Codec Seven
seven = pair u16 (pair u16 (pair u16 (pair u16 (pair byte (pair u16 u16)))))

abbrev pub to_policy : Seven → Policy
to_policy x = record {
  need = x.0;
  bar = x.1.0;
  clear = x.1.1.0;
  set = x.1.1.1.0;
  flag = eqb x.1.1.1.1.0 1;
  preference = x.1.1.1.1.1.0;
  added = x.1.1.1.1.1.1;
}

abbrev pub of_policy : Policy → Seven
of_policy p = (p.need, (p.bar, (p.clear, (p.set, (cond p.flag 1 0, (p.preference, p.added))))))

flag_small : (t : Bool) → cond t 1 0 < 256
flag_small true = omega arith
flag_small false = omega arith

flag_there : (t : Bool) → eqb (cond t 1 0) 1 ≡ t
flag_there true = refl
flag_there false = refl

pub policy_fits : (p : Policy) → PolicyFits p → seven.Fits (of_policy p)
policy_fits p h = (h.0, (h.1, (h.2, (h.3, (flag_small p.flag, (h.5, h.6))))))

pub policy_there : (p : Policy) → PolicyFits p → to_policy (of_policy p) ≡ p
policy_there p h = λ i. record {
  need = p.need;
  bar = p.bar;
  clear = p.clear;
  set = p.set;
  flag = flag_there p.flag i;
  preference = p.preference;
  added = p.added;
}

abbrev pub PolicyFormed : List ℕ → ℕ → Type 0
PolicyFormed b o = Bytes b × (policy_formed b o ≡ true)

pub policy_formed_lem : (b : List ℕ) (o : ℕ) → PolicyFormed b o → seven.Formed b o
policy_formed_lem b o h =
    let z = h.0 in (
      (z o, z (o + 1)),
      (
        (z (o + 2), z (o + 2 + 1)),
        (
          (z (o + 2 + 2), z (o + 2 + 2 + 1)),
          (
            (z (o + 2 + 2 + 2), z (o + 2 + 2 + 2 + 1)),
            (tt, ((z (o + 2 + 2 + 2 + 2 + 1), z (o + 2 + 2 + 2 + 2 + 1 + 1)), (z (o + 2 + 2 + 2 + 2 + 1 + 2), z (o + 2 + 2 + 2 + 2 + 1 + 2 + 1)))),
          ),
        ),
      ),
    )

-- what a formed policy is: its preference is formed, and it adds at least 1
module _ (b : List ℕ) (o : ℕ) (h : policy_formed b o ≡ true) where
  formed_preference : preference_formed b (o + 8) ≡ true
  unfolding policy_formed
  formed_preference = and_l (preference_formed b (o + 8)) (leb 1 (u16_at b (o + 11))) h

  pub formed_adds : 1 ≤ u16_at b (o + 11)
  unfolding policy_formed
  formed_adds = leb-true 1 (u16_at b (o + 11)) (and_r (preference_formed b (o + 8)) (leb 1 (u16_at b (o + 11))) h)

-- one that adds 0 is ill formed
pub zero_ill : (b : List ℕ) (o : ℕ) → (policy_at b o).added ≡ 0 → policy_formed b o ≡ false
unfolding policy_at
zero_ill b o e = go (policy_formed b o) refl
  where
    go : (t : Bool) → policy_formed b o ≡ t → t ≡ false
    go true q = let one = formed_adds b o q in absurd (omega arith)
    go false q = refl

-- the flag's byte
flag_byte_lem : (b : List ℕ) (o : ℕ) → preference_formed b o ≡ true → cond (eqb (get_or b o 0) 1) 1 0 ≡ get_or b o 0
unfolding preference_formed
flag_byte_lem b o = go (eqb (get_or b o 0) 0) refl
  where
    go : (t : Bool) → eqb (get_or b o 0) 0 ≡ t → cond t (eqb (u16_at b (o + 1)) 0) (eqb (get_or b o 0) 1) ≡ true → cond (eqb (get_or b o 0) 1) 1 0 ≡ get_or b o 0
    go true q e = rw (eqb-true (get_or b o 0) 0 q) refl
    go false q e = rw (eqb-true (get_or b o 0) 1 e) refl

pub policy_here : (b : List ℕ) (o : ℕ) → PolicyFormed b o → of_policy (to_policy (seven.value b o)) ≡ seven.value b o
policy_here b o h =
    let v = seven.value b o in
    let eight : o + 8 ≡ o + 2 + 2 + 2 + 2 = omega arith in
    let flag : cond (eqb v.1.1.1.1.0 1) 1 0 ≡ v.1.1.1.1.0 = rw eight at (flag_byte_lem b (o + 8) (formed_preference b o h.1)) in
    λ i. (v.0, (v.1.0, (v.1.1.0, (v.1.1.1.0, (flag i, (v.1.1.1.1.1.0, v.1.1.1.1.1.1))))))

-- bytes that hold a policy are formed
pub policy_made : (b : List ℕ) (o : ℕ) (p : Policy) → PolicyFits p → Bytes b → seven.Formed b o → seven.value b o ≡ of_policy p → PolicyFormed b o
unfolding policy_formed preference_formed
policy_made b o p h z formed e = (z, and_i (preference_formed b (o + 8)) (leb 1 (u16_at b (o + 11))) (go p.flag refl) adds)
  where
    eight : o + 2 + 2 + 2 + 2 ≡ o + 8
    eight = omega arith

    nine : o + 2 + 2 + 2 + 2 + 1 ≡ o + 8 + 1
    nine = omega arith

    eleven : o + 2 + 2 + 2 + 2 + 1 + 2 ≡ o + 11
    eleven = omega arith

    flag : get_or b (o + 8) 0 ≡ cond p.flag 1 0
    flag = ap (λ (k : ℕ). get_or b k 0) (sym eight) ∙ ap (λ (x : Seven). x.1.1.1.1.0) e

    preference : u16_at b (o + 8 + 1) ≡ p.preference
    preference = ap (u16_at b) (sym nine) ∙ ap (λ (x : Seven). x.1.1.1.1.1.0) e

    added : u16_at b (o + 11) ≡ p.added
    added = ap (u16_at b) (sym eleven) ∙ ap (λ (x : Seven). x.1.1.1.1.1.1) e

    adds : leb 1 (u16_at b (o + 11)) ≡ true
    adds = rw added (le-leb 1 p.added h.7)

    go : (t : Bool) → p.flag ≡ t → cond (eqb (get_or b (o + 8) 0) 0) (eqb (u16_at b (o + 8 + 1)) 0) (eqb (get_or b (o + 8) 0) 1) ≡ true
    go true q = rw (flag, q)
    go false q = rw (flag, q, preference, h.4 q)

abbrev pub policy_parts : Codec Policy
policy_parts = named seven to_policy of_policy PolicyFits PolicyFormed policy_fits policy_there policy_formed_lem policy_here policy_made

pub policy_bytes_lem : (p : Policy) → policy_bytes p ≡ policy_parts.bytes p
unfolding policy_bytes u16_bytes
policy_bytes_lem p = refl

pub policy_value : (b : List ℕ) (o : ℕ) → policy_at b o ≡ policy_parts.value b o
unfolding policy_at
policy_value b o =
    let four : o + 4 ≡ o + 2 + 2 = omega arith in
    let six : o + 6 ≡ o + 2 + 2 + 2 = omega arith in
    let eight : o + 8 ≡ o + 2 + 2 + 2 + 2 = omega arith in
    let nine : o + 9 ≡ o + 2 + 2 + 2 + 2 + 1 = omega arith in
    let eleven : o + 11 ≡ o + 2 + 2 + 2 + 2 + 1 + 2 = omega arith in
    rw (four, six, eight, nine, eleven)

-- A policy of 13 bytes, both ways.
abbrev pub policy : Codec Policy
policy = restated policy_parts 13 policy_bytes policy_at refl policy_bytes_lem policy_value

-- What is read from formed bytes can be written: a flag of 0 leaves preference 0, and at least 1 is added.
pub policy_read_fits : (b : List ℕ) (o : ℕ) → PolicyFormed b o → PolicyFits (policy_at b o)
unfolding policy_at preference_formed
policy_read_fits b o h =
    let z = h.0 in
    (below o z, below (o + 2) z, below (o + 4) z, below (o + 6) z, unset, below (o + 9) z, below (o + 11) z, formed_adds b o h.1)
  where
    below : (k : ℕ) → Bytes b → u16_at b k < 65536
    below k z = u16_below b k (z k, z (k + 1))

    nine : o + 9 ≡ o + 8 + 1
    nine = omega arith

    unset : eqb (get_or b (o + 8) 0) 1 ≡ false → u16_at b (o + 9) ≡ 0
    unset = go (eqb (get_or b (o + 8) 0) 0) (formed_preference b o h.1)
      where
        go : (t : Bool) → cond t (eqb (u16_at b (o + 8 + 1)) 0) (eqb (get_or b (o + 8) 0) 1) ≡ true → eqb (get_or b (o + 8) 0) 1 ≡ false → u16_at b (o + 9) ≡ 0
        go true e q = ap (u16_at b) nine ∙ eqb-true _ _ e
        go false e q = absurd (false≢true (sym q ∙ e))

-- The policies of two records: as many, and each alike at its place (all_alike).
use mathlib.Core.Path.{◌≡◌, refl, sym, ap, ◌∙◌}
use mathlib.Core.Bool.{Bool, true, false, cond, ◌&&◌}
use mathlib.Core.List.{List}
use Prim.Native.Nat.{ℕ, zero, suc, ◌+◌, ◌≤◌, ◌<◌}
use native.Mathlib.Omega.{arith}
use lib.Dec.{eqb}
use lib.ListN.{length}
use borrow.Author.Tests.{eq-eqb, ne_eqb, eqb-true, eqb-false}
use Rattle.lists.specs.All.{all_alike}
use Rattle.lists.specs.First.{first_bad}
use Rattle.lists.specs.Rows.{rows}
use Rattle.lists.specs.Stride.{at}
use Rattle.lists.proofs.Stride.{at_zero, at_shift}
use Rattle.routes.specs.Alike.{same_policy}
use Rattle.routes.specs.Form.{policy_at}
use Rattle.routes.specs.declared.Policy.{Policy}
use Rattle.layout.specs.Layout.{policy_count, policy_offset}
use Rattle.layout.specs.declared.Form.{Form}
use Rattle.layout.proofs.Places.{policy_room}
use Rattle.records.specs.Checked.{CheckedNetwork}
use Rattle.reading.specs.Whole.{read_network}
use Rattle.matching.specs.Policies.{policy_alike}

eqb_suc : (x n : ℕ) → eqb (suc x) (suc n) ≡ eqb x n
eqb_suc x n = go (eqb x n) refl
  where
    go : (t : Bool) → eqb x n ≡ t → eqb (suc x) (suc n) ≡ t
    go true e = eq-eqb (suc x) (suc n) (ap suc (eqb-true x n e))
    go false e = ne_eqb (suc x) (suc n) (λ q. eqb-false x n e (omega arith))

-- rows at the same offsets of two tables
module _ {A : Type 0} (alike : A → A → Bool) (width : ℕ) (va vb : ℕ → A) where
  -- as many: alike where the first unlike one is none
  alike_rows : (ok : ℕ → Bool) (o n : ℕ) → ((i : ℕ) → i < n → ok i ≡ alike (va (at o width i)) (vb (at o width i)))
      → all_alike alike (rows va width o n) (rows vb width o n) ≡ eqb (first_bad ok n) n
  unfolding first_bad
  alike_rows ok o zero h = refl
  alike_rows ok o (suc n) h =
      go (ok 0) (h 0 (omega arith) ∙ rw (at_zero o width) refl)
      (alike_rows (λ k. ok (suc k)) (o + width) n (λ i l. h (suc i) (omega arith) ∙ rw (at_shift o width i) refl))
    where
      go : (t : Bool) → t ≡ alike (va o) (vb o) → all_alike alike (rows va width (o + width) n) (rows vb width (o + width) n) ≡ eqb (first_bad (λ k. ok (suc k)) n) n
          → alike (va o) (vb o) && all_alike alike (rows va width (o + width) n) (rows vb width (o + width) n) ≡ eqb (cond t (suc (first_bad (λ k. ok (suc k)) n)) 0) (suc n)
      go true e r = rw (← e, eqb_suc (first_bad (λ k. ok (suc k)) n) n) r
      go false e r = rw (← e, ne_eqb 0 (suc n) (λ q. omega arith)) refl

  -- not as many
  unlike_rows : (o n p m : ℕ) → (n ≡ m → ⊥) → all_alike alike (rows va width o n) (rows vb width p m) ≡ false
  unlike_rows o zero p zero d = absurd (d refl)
  unlike_rows o zero p (suc m) d = refl
  unlike_rows o (suc n) p zero d = refl
  unlike_rows o (suc n) p (suc m) d = go (alike (va o) (vb p)) (unlike_rows (o + width) n (p + width) m (λ e. d (ap suc e)))
    where
      go : (t : Bool) → all_alike alike (rows va width (o + width) n) (rows vb width (p + width) m) ≡ false
          → t && all_alike alike (rows va width (o + width) n) (rows vb width (p + width) m) ≡ false
      go true e = e
      go false e = refl

-- a policy of either, as the code reads it
module _ (f : Form) (a b : List ℕ) (i n : ℕ) (l : i < n) (o : ℕ) (e : o ≡ policy_offset i) where
  pub policy_there : (c : List ℕ) → CheckedNetwork f c → n ≡ policy_count c → o + 13 ≤ length c
  policy_there c k q = rw e (policy_room f c k.room i (omega arith))

  pub policy_said : (p q : Policy) (t : Bool) → p ≡ policy_at a o → q ≡ policy_at b o → t ≡ same_policy p q → t ≡ policy_alike a b i
  unfolding policy_alike
  policy_said p q t x y z = rw (← e, ← x, ← y) z

pub policy_index : (f : Form) (c : List ℕ) (i n : ℕ) → CheckedNetwork f c → i < n → n ≡ policy_count c → i ≤ 64
policy_index f c i n k l q = let m = k.sound.few_policies in omega arith

pub ruleset policy_rows = (policy_there, policy_said, policy_index)

module _ (f : Form) (a b : List ℕ) where
  abbrev same : Bool
  same = all_alike same_policy (read_network f a).policies (read_network f b).policies

  pub counts_differ : (n m : ℕ) → n ≡ policy_count a → m ≡ policy_count b → (n ≡ m → ⊥) → false ≡ same
  unfolding read_network
  counts_differ n m e d u = sym (unlike_rows same_policy 13 (policy_at a) (policy_at b) 10 (policy_count a) 10 (policy_count b) (λ q. u (e ∙ q ∙ sym d)))

  pub policies_alike : (n m i : ℕ) → n ≡ policy_count a → m ≡ policy_count b → n ≡ m → i ≡ first_bad (policy_alike a b) n → eqb i n ≡ same
  unfolding read_network policy_alike policy_offset
  policies_alike n m i e d u q =
      sym (rw (← d, ← e, ← u, q) (alike_rows same_policy 13 (policy_at a) (policy_at b) (λ k. same_policy (policy_at a (at 10 13 k)) (policy_at b (at 10 13 k))) 10 n (λ k l. refl)))

pub ruleset likened = (counts_differ, policies_alike)

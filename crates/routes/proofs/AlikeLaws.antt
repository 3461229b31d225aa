-- Equality of policies: equal in all seven fields means the same policy.
use mathlib.Core.Path.{◌≡◌, refl}
use mathlib.Core.Bool.{Bool, true, false}
use native.Mathlib.Omega.{arith}
use lib.Dec.{eqb}
use borrow.Author.Tests.{eq-eqb, eqb-true}
use Rattle.lists.proofs.Test.{and_l, and_r}
use Rattle.routes.specs.Alike.{flag_byte, same_policy}
use Rattle.routes.specs.declared.Policy.{Policy}

same_flag : (s t : Bool) → flag_byte s ≡ flag_byte t → s ≡ t
same_flag true true e = refl
same_flag true false e = absurd (omega arith)
same_flag false true e = absurd (omega arith)
same_flag false false e = refl

pub alike_true : (p q : Policy) → same_policy p q ≡ true → p ≡ q
unfolding same_policy
alike_true p q h =
    let h₁ = and_r (eqb p.need q.need) _ h in
    let h₂ = and_r (eqb p.bar q.bar) _ h₁ in
    let h₃ = and_r (eqb p.clear q.clear) _ h₂ in
    let h₄ = and_r (eqb p.set q.set) _ h₃ in
    let h₅ = and_r (eqb (flag_byte p.flag) (flag_byte q.flag)) _ h₄ in
    let need = eqb-true _ _ (and_l (eqb p.need q.need) _ h) in
    let bar = eqb-true _ _ (and_l (eqb p.bar q.bar) _ h₁) in
    let clear = eqb-true _ _ (and_l (eqb p.clear q.clear) _ h₂) in
    let set = eqb-true _ _ (and_l (eqb p.set q.set) _ h₃) in
    let flag = same_flag _ _ (eqb-true _ _ (and_l (eqb (flag_byte p.flag) (flag_byte q.flag)) _ h₄)) in
    let preference = eqb-true _ _ (and_l (eqb p.preference q.preference) _ h₅) in
    let added = eqb-true _ _ (and_r (eqb p.preference q.preference) _ h₅) in
    λ i. record { need = need i; bar = bar i; clear = clear i; set = set i; flag = flag i; preference = preference i; added = added i }

pub alike_self : (p : Policy) → same_policy p p ≡ true
unfolding same_policy
alike_self p = rw (
  eq-eqb p.need p.need refl,
  eq-eqb p.bar p.bar refl,
  eq-eqb p.clear p.clear refl,
  eq-eqb p.set p.set refl,
  eq-eqb (flag_byte p.flag) (flag_byte p.flag) refl,
  eq-eqb p.preference p.preference refl,
  eq-eqb p.added p.added refl,
) refl

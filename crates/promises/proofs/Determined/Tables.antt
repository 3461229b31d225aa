-- One result of the functions that fill lent tables by what the filled table says. A lent array has its length, which the contract does not
-- say and the type does; with it two filled tables are equal entry by entry.
use Rattle.layout.specs.declared.Refusal.{Refusal}
use Rattle.layout.specs.declared.Form.{Form}
use Rattle.std.proofs.Common.{Result}
use mathlib.Core.Path.{◌≡◌, sym, subst}
use mathlib.Core.List.{List}
use Prim.Native.Nat.{ℕ}
use contract.Lifetimes.{Lfts}
use lib.ListN.{length}
use Rattle.layout.proofs.Cases.{one_check}
use Rattle.layout.specs.Form.{form_of}
use Rattle.records.specs.Rows.{RowsAfter}
use Rattle.records.proofs.RowLaws.{filled_once, rows_after_once}
use Rattle.records.proofs.fill_rows.Reads as fill_rows
use Rattle.records.proofs.check_network_rows.Reads as check_network_rows
use Rattle.preparing.proofs.GivenLaws.{prepare_once}
use Rattle.preparing.proofs.prepare.Reads as prepare
use Rattle.promises.specs.Determined.{One}

pub one_fill_rows : (κs : Lfts 3) → One (λ a r e. fill_rows.Post κs a r e × (length e.1.0.now ≡ 65536)) (λ r e. e.1.0.now)
one_fill_rows κs a r r' e e' p q = filled_once _ _ _ _ p.1 q.1 p.0 q.0

pub one_check_network_rows : (κs : Lfts 2)
    → One {B = Result Form Refusal × List ℕ} (λ a r e. check_network_rows.Post κs a r e × (length e.1.0.now ≡ 65536)) (λ r e. (r, e.1.0.now))
one_check_network_rows κs a r r' e e' p q =
    let same = one_check _ r r' p.0.0 q.0.0 in
    let b = a.0.now in
    let table = rows_after_once (form_of b) b r a.1.0.now e.1.0.now e'.1.0.now p.1 q.1 p.0.1
    (subst (λ (c : Result Form Refusal). RowsAfter (form_of b) b c a.1.0.now e'.1.0.now) (sym same) q.0.1) in
    λ i. (same i, table i)

pub one_prepare : (κs : Lfts 4)
    → One {B = Result Form Refusal × List ℕ × List ℕ} (λ a r e. prepare.Post κs a r e × (length e.1.1.0.now ≡ 65536))
    (λ r e. (r, e.1.1.0.now, e.1.1.1.0.now))
one_prepare κs a r r' e e' p q =
    let same = prepare_once a.0.now a.1.0.now a.1.1.0.now a.1.1.1.0.now r r'
    e.1.1.0.now e'.1.1.0.now e.1.1.1.0.now e'.1.1.1.0.now p.1 q.1
    p.0.0 p.0.1.0 p.0.1.1 q.0.0 q.0.1.0 q.0.1.1 in
    λ i. (same.0 i, same.1 i, same.2 i)

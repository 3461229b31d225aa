-- One law for each refusal of the two records; where neither is refused, the answer is that of what they say (records_cut).
use Rattle.std.proofs.Common.{Ok, Err}
use Rattle.std.proofs.lemmas.Result.{err_from_is_err_and}
use Rattle.cutting.proofs.CheckLaws.{checking, sheet_checked}
use Rattle.records.proofs.Checked.{network_checked, rows_checked}
use mathlib.Core.Path.{◌≡◌}
use Rattle.cutting.proofs.entry.cut.Goals as goal

pub returns-in_err-form : goal.returns-in_err-form
returns-in_err-form c =
    let was : c.check_network_rows.result ≡ Err c.in_err-form.field-0.0 = c.in_err-form.was in
    let back = err_from_is_err_and c.from_residual.result c.from_residual.ensures.1 in
    record { answer = rw (back.1, back.2) (search (checking, was)); buffer = search (checking, was) }

pub returns-in_err-check_sheet : goal.returns-in_err-check_sheet
returns-in_err-check_sheet c =
    let ok : c.check_network_rows.result ≡ Ok c.in_ok-form.form = c.in_ok-form.was in
    let was : c.check_sheet.result ≡ Err c.in_err-check_sheet.field-0.0 = c.in_err-check_sheet.was in
    let back = err_from_is_err_and c.from_residual-in_err-check_sheet.result c.from_residual-in_err-check_sheet.ensures.1 in
    record { answer = rw (back.1, back.2) (search (checking, ok, was)); buffer = search (checking, ok, was) }

pub cut_checked-requires : goal.cut_checked-requires
cut_checked-requires c =
    let n = c.check_network_rows in
    let s = c.check_sheet in
    let ok : n.result ≡ Ok c.in_ok-form.form = c.in_ok-form.was in
    let fine : s.result ≡ Ok c.in_ok-check_sheet.field-0 = c.in_ok-check_sheet.was in (
      rows_checked n.result _ ok _ n.ensures.numbers (λ i. (c.type_inv.network i).fits) _ _ n.ensures.table,
      sheet_checked _ _ n.result n.ensures.numbers s.result s.ensures (λ i. (c.type_inv.sheet i).fits) _ ok _ fine,
    )

pub invariant_of-record : goal.invariant_of-record
invariant_of-record c =
    let n = c.check_network_rows in
    record { room = (network_checked n.result _ c.in_ok-form.was _ n.ensures.numbers (λ i. (c.type_inv.network i).fits)).room }

pub returns : goal.returns
returns c =
    let ok : c.check_network_rows.result ≡ Ok c.in_ok-form.form = c.in_ok-form.was in
    let fine : c.check_sheet.result ≡ Ok c.in_ok-check_sheet.field-0 = c.in_ok-check_sheet.was in
    record { answer = search (checking, ok, fine); buffer = search (checking, ok, fine) }

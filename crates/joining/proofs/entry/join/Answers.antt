-- The refusals of the two records, and what is said of both where neither is refused.
use Rattle.std.proofs.Common.{refl}
use Rattle.std.proofs.lemmas.Result.{err_from_is_err_and}
use Rattle.records.proofs.Checked.{rows_checked}
use Rattle.joining.proofs.CheckLaws.{first_refused, first_kept, second_refused, second_kept, both_answer, both_buffer, second_rows}
use Rattle.joining.proofs.entry.join.Goals as goal

pub returns-in_err-form : goal.returns-in_err-form
returns-in_err-form c =
    let n = c.check_network_rows in
    let back = err_from_is_err_and c.from_residual.result c.from_residual.ensures.1 in
    record {
      answer = rw (back.1, back.2) (first_refused _ _ n.result n.ensures.numbers _ c.in_err-form.was _);
      buffer = first_kept _ _ n.result n.ensures.numbers _ c.in_err-form.was _;
    }

pub returns-in_err-check_network_rows : goal.returns-in_err-check_network_rows
returns-in_err-check_network_rows c =
    let n = c.check_network_rows in
    let m = c.check_network_rows-2 in
    let back = err_from_is_err_and c.from_residual-in_err-check_network_rows.result c.from_residual-in_err-check_network_rows.ensures.1 in
    record {
      answer =
          rw (back.1, back.2)
          (second_refused _ _ n.result n.ensures.numbers _ c.in_ok-form.was m.result m.ensures.numbers _ c.in_err-check_network_rows.was _);
      buffer = second_kept _ _ n.result n.ensures.numbers _ c.in_ok-form.was m.result m.ensures.numbers _ c.in_err-check_network_rows.was _;
    }

pub invariant_of-pair : goal.invariant_of-pair
invariant_of-pair c =
    let n = c.check_network_rows in
    let one = rows_checked n.result _ c.in_ok-form.was _ n.ensures.numbers (λ i. (c.type_inv.first i).fits) _ _ n.ensures.table in
    record { room = one.checked.room }

pub invariant_of-pair-2 : goal.invariant_of-pair-2
invariant_of-pair-2 c =
    let n = c.check_network_rows in
    let m = c.check_network_rows-2 in
    let other = second_rows _ _ n.result n.ensures.numbers _ c.in_ok-form.was m.result m.ensures.numbers _ c.in_ok-check_network_rows.was
    (λ i. (c.type_inv.second i).fits) _ _ m.ensures.table in
    record { room = other.checked.room }

pub invariant_of-pair-3 : goal.invariant_of-pair-3
invariant_of-pair-3 c =
    let n = c.check_network_rows in
    let one = rows_checked n.result _ c.in_ok-form.was _ n.ensures.numbers (λ i. (c.type_inv.first i).fits) _ _ n.ensures.table in
    record { tabled = record { room = one.checked.room; filled = one.filled } }

pub invariant_of-pair-4 : goal.invariant_of-pair-4
invariant_of-pair-4 c =
    let n = c.check_network_rows in
    let m = c.check_network_rows-2 in
    let other = second_rows _ _ n.result n.ensures.numbers _ c.in_ok-form.was m.result m.ensures.numbers _ c.in_ok-check_network_rows.was
    (λ i. (c.type_inv.second i).fits) _ _ m.ensures.table in
    record { tabled = record { room = other.checked.room; filled = other.filled } }

pub invariant_of-pair-5 : goal.invariant_of-pair-5
invariant_of-pair-5 c =
    let n = c.check_network_rows in
    let m = c.check_network_rows-2 in
    let one = rows_checked n.result _ c.in_ok-form.was _ n.ensures.numbers (λ i. (c.type_inv.first i).fits) _ _ n.ensures.table in
    let other = second_rows _ _ n.result n.ensures.numbers _ c.in_ok-form.was m.result m.ensures.numbers _ c.in_ok-check_network_rows.was
    (λ i. (c.type_inv.second i).fits) _ _ m.ensures.table in
    record { one_form = refl; first_checked = one.checked; second_checked = other.checked }

pub returns : goal.returns
returns c =
    let n = c.check_network_rows in
    let m = c.check_network_rows-2 in
    let said = c.join_checked.ensures in
    record {
      answer = both_answer _ _ n.result n.ensures.numbers _ c.in_ok-form.was m.result m.ensures.numbers _ c.in_ok-check_network_rows.was _ _ said.answer;
      buffer = both_buffer _ _ n.result n.ensures.numbers _ c.in_ok-form.was m.result m.ensures.numbers _ c.in_ok-check_network_rows.was _ _ said.buffer;
    }

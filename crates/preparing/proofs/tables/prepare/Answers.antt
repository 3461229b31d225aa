-- The network's refusals (network_refused), the list's (list_refused), and then what the entries give (records_entered).
use Rattle.std.proofs.Common.{◌≡◌, Err}
use Rattle.preparing.proofs.PrepareLaws.{preparing, list_checked, list_refused, list_refused_rows, refused_stands}
use Rattle.records.proofs.Checked.{network_checked}
use borrow.Author.Rules.{rules}
use Rattle.preparing.proofs.tables.prepare.Goals as goal

pub invariant_of-record : goal.invariant_of-record
invariant_of-record c =
    let n = c.check_network_rows in
    record { room = (network_checked n.result _ c.in_ok-form.was _ n.ensures.numbers (λ i. (c.type_inv.network i).fits)).room }

pub enter-requires : goal.enter-requires
enter-requires c =
    let n = c.check_network_rows in
    let l = c.check_list in (
      network_checked n.result _ c.in_ok-form.was _ n.ensures.numbers (λ i. (c.type_inv.network i).fits),
      list_checked _ _ n.result n.ensures.numbers l.result l.ensures (λ i. (c.type_inv.list i).fits) _ c.in_ok-form.was _ c.in_ok-check_list.was,
    )

pub returns-in_err-form : goal.returns-in_err-form
returns-in_err-form c = search (rules, preparing, c.in_err-form.was)

pub returns-in_err-check_list : goal.returns-in_err-check_list
returns-in_err-check_list c =
    let n = c.check_network_rows in
    let refused : c.from_residual-in_err-check_list.result ≡ Err c.in_err-check_list.field-0.0 = search rules in
    record {
      numbers = list_refused _ _ n.result n.ensures.numbers _ c.in_ok-form.was _ c.check_list.ensures _ c.in_err-check_list.was _ refused;
      rows = list_refused_rows _ _ n.result n.ensures.numbers _ c.in_ok-form.was _ c.check_list.ensures _ c.in_err-check_list.was _ refused _ _ n.ensures.table;
      stands = refused_stands _ _ _ _ _ refused;
    }

pub returns : goal.returns
returns c = search (rules, preparing, c.in_ok-form.was, c.in_ok-check_list.was)

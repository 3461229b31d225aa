-- One law for each of 1 and 2, and one for the rows below.
use Rattle.records.proofs.NetworkRefusals.{network, network_version, network_counts, rows_formed, same_form}
use mathlib.Core.Path.{refl}
use Rattle.layout.proofs.OneForm.{told_usable}
use borrow.Author.Rules.{rules}
use Rattle.records.proofs.network.check_network_rows.Goals as goal

pub returns-then-n-lt10 : goal.returns-then-n-lt10
returns-then-n-lt10 c = record { numbers = search network; table = refl }

pub of_width-requires : goal.of_width-requires
of_width-requires c = search (rules, told_usable)

pub check_counts-requires : goal.check_counts-requires
check_counts-requires c = search (rules, told_usable, same_form)

pub returns : goal.returns
returns c = record { numbers = search (network_counts, same_form); table = search (rows_formed, same_form) }

pub returns-in_default : goal.returns-in_default
returns-in_default c = record { numbers = search network_version; table = refl }

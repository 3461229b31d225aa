-- One law for each row of the table from 3 to 5 and the second 1, and one for the rows below.
use Rattle.records.proofs.NetworkRefusals.{counts, few_nodes, counts_parts}
use mathlib.Core.Path.{refl}
use borrow.Author.Rules.{rules}
use Rattle.records.proofs.network.check_counts.Goals as goal

pub returns-then-counts_over : goal.returns-then-counts_over
returns-then-counts_over c = record { numbers = search counts; table = refl }

pub returns-then-u32_at-total : goal.returns-then-u32_at-total
returns-then-u32_at-total c = record { numbers = search counts; table = refl }

pub returns-then-n-total : goal.returns-then-n-total
returns-then-n-total c = record { numbers = search counts; table = refl }

pub returns-then-total-n : goal.returns-then-total-n
returns-then-total-n c = record { numbers = search counts; table = refl }

pub invariant_of-check_parts : goal.invariant_of-check_parts
invariant_of-check_parts c = record { room = record { usable = search rules; long = search rules; few = search few_nodes; whole = search rules } }

pub returns : goal.returns
returns c = record { numbers = search counts_parts; table = search rules }

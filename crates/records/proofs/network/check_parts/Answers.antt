-- One law for 6, and one for the rows below.
use Rattle.records.proofs.NetworkRefusals.{policies_here, parts_policy, parts_nodes}
use mathlib.Core.Path.{refl}
use borrow.Author.Rules.{rules}
use Rattle.records.proofs.network.check_parts.Goals as goal

pub bad_policy-policy-requires : goal.bad_policy-policy-requires
bad_policy-policy-requires c = search policies_here

pub returns-then-policy-policies : goal.returns-then-policy-policies
returns-then-policy-policies c = record { numbers = search parts_policy; table = refl }

pub returns : goal.returns
returns c = record { numbers = search parts_nodes; table = search rules }

-- One law for each way: an input, no cut wire, no promise, and the two routes compared.
use Rattle.marking.proofs.ClashLaws.{clashing}
use borrow.Author.Rules.{rules}
use Rattle.marking.proofs.tables.Entered.keeps_promise.Goals as goal

pub returns-then-not-is_own : goal.returns-then-not-is_own
returns-then-not-is_own c = search (rules, clashing)

pub returns-then-leaves-i-eq0 : goal.returns-then-leaves-i-eq0
returns-then-leaves-i-eq0 c = search (rules, clashing)

pub promising_at-requires : goal.promising_at-requires
promising_at-requires c = search (rules, clashing)

pub returns-then-not-promising_at : goal.returns-then-not-promising_at
returns-then-not-promising_at c = search (rules, clashing)

pub route_at-requires : goal.route_at-requires
route_at-requires c = search (rules, clashing)

pub returns : goal.returns
returns c = search (rules, clashing)

-- One law for each count.
use Rattle.counting.proofs.CountLaws.{owning}
use borrow.Author.Rules.{rules}
use Rattle.counting.proofs.counts.own_counted.Goals as goal

pub promising_at-requires : goal.promising_at-requires
promising_at-requires c = search (rules, owning)

pub promises_route-requires : goal.promises_route-requires
promises_route-requires c = search (rules, owning)

pub asks_route-requires : goal.asks_route-requires
asks_route-requires c = search (rules, owning)

pub returns-in-Holding : goal.returns-in-Holding
returns-in-Holding c = search (rules, owning)

pub returns-in-Inputs : goal.returns-in-Inputs
returns-in-Inputs c = search (rules, owning)

pub returns-in-Assumed : goal.returns-in-Assumed
returns-in-Assumed c = search (rules, owning)

pub returns-in-Promises : goal.returns-in-Promises
returns-in-Promises c = search (rules, owning)

pub returns-in-Promised : goal.returns-in-Promised
returns-in-Promised c = search (rules, owning)

pub returns-in-Asked : goal.returns-in-Asked
returns-in-Asked c = search (rules, owning)

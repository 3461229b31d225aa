-- One law for each count.
use Rattle.counting.proofs.CountLaws.{assuming}
use borrow.Author.Rules.{rules}
use Rattle.counting.proofs.counts.input_counted.Goals as goal

pub returns-in-Holding : goal.returns-in-Holding
returns-in-Holding c = search (rules, assuming)

pub returns-in-Inputs : goal.returns-in-Inputs
returns-in-Inputs c = search (rules, assuming)

pub returns-in-Assumed : goal.returns-in-Assumed
returns-in-Assumed c = search (rules, assuming)

pub returns-in-Promises : goal.returns-in-Promises
returns-in-Promises c = search (rules, assuming)

pub returns-in-Promised : goal.returns-in-Promised
returns-in-Promised c = search (rules, assuming)

pub returns-in-Asked : goal.returns-in-Asked
returns-in-Asked c = search (rules, assuming)

pub returns-in-Silent : goal.returns-in-Silent
returns-in-Silent c = search (rules, assuming)

-- One law for each way out: the tables give the tests by which is defined what is kept of the row.
use Rattle.marking.proofs.PieceLaws.{classifying}
use borrow.Author.Rules.{rules}
use Rattle.marking.proofs.tables.Fragment.piece_of.Goals as goal

pub returns-then-not-is_own : goal.returns-then-not-is_own
returns-then-not-is_own c = search (rules, classifying)

pub returns-then-leaves-i-eq0 : goal.returns-then-leaves-i-eq0
returns-then-leaves-i-eq0 c = search (rules, classifying)

pub promising_at-requires : goal.promising_at-requires
promising_at-requires c = search (rules, classifying)

pub returns-then-promising_at : goal.returns-then-promising_at
returns-then-promising_at c = search (rules, classifying)

pub returns : goal.returns
returns c = search (rules, classifying)

pub returns-then-self-i : goal.returns-then-self-i
returns-then-self-i c = search (rules, classifying)

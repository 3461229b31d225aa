-- By the node's kind, and for an own one by what the other network owns.
use Rattle.matching.proofs.RowLaws.{once_laws}
use borrow.Author.Rules.{rules}
use Rattle.matching.proofs.rows.owned_once.Goals as goal

pub returns-then-not-is_own : goal.returns-then-not-is_own
returns-then-not-is_own c = search (rules, once_laws)

pub returns-else-not-is_own : goal.returns-else-not-is_own
returns-else-not-is_own c = search (rules, once_laws)

-- Whether the other network has the id (id_shared).
use Rattle.matching.proofs.RowLaws.{id_shared}
use borrow.Author.Rules.{rules}
use Rattle.matching.proofs.rows.in_other.Goals as goal

pub returns : goal.returns
returns c = search (rules, id_shared)

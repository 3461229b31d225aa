-- The policies stand between the head and the nodes, and are copied.
use Rattle.writing.proofs.HeadLaws.{policies}
use borrow.Author.Rules.{rules}
use Rattle.writing.proofs.heads.put_policies.Goals as goal

pub put_part-requires : goal.put_part-requires
put_part-requires c = (search rules, search policies)

pub returns : goal.returns
returns c = record { size = search policies; laid = search policies }

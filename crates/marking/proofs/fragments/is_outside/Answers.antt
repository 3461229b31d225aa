-- The number decides, and where it is k the kind does.
use Rattle.marking.proofs.FragmentLaws.{asking}
use borrow.Author.Rules.{rules}
use Rattle.marking.proofs.fragments.is_outside.Goals as goal

pub returns-then-fragments-i : goal.returns-then-fragments-i
returns-then-fragments-i c = search (rules, asking)

pub returns-else-fragments-i : goal.returns-else-fragments-i
returns-else-fragments-i c = search (rules, asking)

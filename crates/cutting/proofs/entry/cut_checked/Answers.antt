-- The first own box without an entry is 17 (answer_17); where there is none, both tables are filled.
use Rattle.cutting.proofs.AnswerLaws.{cutting_17}
use Rattle.marking.proofs.FragmentLaws.{fragments_numbered}
use borrow.Author.Rules.{rules}
use Rattle.cutting.proofs.entry.cut_checked.Goals as goal

pub returns-then-missing-node_count : goal.returns-then-missing-node_count
returns-then-missing-node_count c = record { answer = search (rules, cutting_17); buffer = search (rules, cutting_17) }

pub invariant_of-entered : goal.invariant_of-entered
invariant_of-entered c = record { checked = search rules; formed = search rules; noted = search (rules, cutting_17) }

pub invariant_of-fragment : goal.invariant_of-fragment
invariant_of-fragment c = record { numbered = search (rules, fragments_numbered) }

pub cut_entered-requires : goal.cut_entered-requires
cut_entered-requires c = record { filled = search rules; entered = search (rules, cutting_17) }

-- No row with the number is 18 (answer_18); one is what the rest asks for.
use Rattle.cutting.proofs.AnswerLaws.{cutting_18}
use borrow.Author.Rules.{rules}
use Rattle.cutting.proofs.entry.cut_entered.Goals as goal

pub returns-then-first_inside-node_count : goal.returns-then-first_inside-node_count
returns-then-first_inside-node_count c = record { answer = search (rules, cutting_18); buffer = search (rules, cutting_18) }

pub cut_asked-requires : goal.cut_asked-requires
cut_asked-requires c = record { filled = search rules; entered = (search rules, search (rules, cutting_18)) }

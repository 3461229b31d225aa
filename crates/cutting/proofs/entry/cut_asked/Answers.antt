-- The marks of all edges say which boxes cut wires leave (leaving). The first clash is 19; where there is none, the answer is the fragment's.
use Rattle.cutting.proofs.AnswerLaws.{cutting_19}
use Rattle.cutting.proofs.CheckLaws.{tables_whole}
use borrow.Author.Rules.{rules}
use Rattle.cutting.proofs.entry.cut_asked.Goals as goal

pub first_clash-clash-requires : goal.first_clash-clash-requires
first_clash-clash-requires c = search (rules, tables_whole)

pub returns-then-clash-node_count : goal.returns-then-clash-node_count
returns-then-clash-node_count c = record { answer = search (rules, cutting_19); buffer = search (rules, cutting_19) }

pub cut_agreed-requires : goal.cut_agreed-requires
cut_agreed-requires c = record { filled = search rules; edges_value = search rules; leaving = (search (rules, tables_whole), search (rules, tables_whole)) }

pub returns : goal.returns
returns c = record { answer = search (rules, cutting_19); buffer = search (rules, cutting_19) }

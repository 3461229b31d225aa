-- The first own box without an entry is 17 (entry_lacking); where there is none the table is filled (all_standing).
use Rattle.preparing.proofs.PrepareLaws.{entering}
use borrow.Author.Rules.{rules}
use Rattle.preparing.proofs.tables.enter.Goals as goal

pub returns-then-row-node_count : goal.returns-then-row-node_count
returns-then-row-node_count c = search (rules, entering)

pub returns : goal.returns
returns c = search (rules, entering)

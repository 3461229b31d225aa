-- An input has 64; an own node's entry is within the sheet, and has its number (own_fragment).
use Rattle.marking.proofs.FragmentLaws.{numbering}
use borrow.Author.Rules.{rules}
use Rattle.marking.proofs.tables.Entered.fragment_of.Goals as goal

pub returns-then-not-is_own : goal.returns-then-not-is_own
returns-then-not-is_own c = search (rules, numbering)

pub overflow_add-result : goal.overflow_add-result
overflow_add-result c = search (rules, numbering)

pub bounds-self-entry_offset : goal.bounds-self-entry_offset
bounds-self-entry_offset c = search (rules, numbering)

pub returns : goal.returns
returns c = search (rules, numbering)

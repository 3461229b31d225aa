-- The count through both records is within the network, and the row is an input's (network_part), or it is not, and the row is an own box's (list_part).
use Rattle.preparing.proofs.LookupLaws.{row_parts}
use borrow.Author.Rules.{rules}
use Rattle.preparing.proofs.lookup.Proposal.row_part.Goals as goal

pub slice_bounds-result-end : goal.slice_bounds-result-end
slice_bounds-result-end c = search (rules, row_parts)

pub returns-then-at-n : goal.returns-then-at-n
returns-then-at-n c = search (rules, row_parts)

pub overflow_add-result-2 : goal.overflow_add-result-2
overflow_add-result-2 c = search (rules, row_parts)

pub slice_bounds-result-end-2 : goal.slice_bounds-result-end-2
slice_bounds-result-end-2 c = search (rules, row_parts)

pub returns : goal.returns
returns c = search (rules, row_parts)

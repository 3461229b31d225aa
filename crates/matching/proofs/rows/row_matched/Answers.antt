-- An own node, an id that the other network does not have, or what its node there says.
use Rattle.matching.proofs.RowLaws.{field_rooms, matching_row}
use borrow.Author.Rules.{rules}
use Rattle.matching.proofs.rows.row_matched.Goals as goal

pub returns-then-is_own : goal.returns-then-is_own
returns-then-is_own c = search (rules, field_rooms, matching_row)

pub returns-then-not-is_boxed : goal.returns-then-not-is_boxed
returns-then-not-is_boxed c = search (rules, field_rooms, matching_row)

pub route_at-assumed-requires : goal.route_at-assumed-requires
route_at-assumed-requires c = search (rules, field_rooms, matching_row)

pub returns : goal.returns
returns c = search (rules, field_rooms, matching_row)

-- By the node's kind, and for an own one by its promise.
use Rattle.matching.proofs.RowLaws.{field_rooms, match_laws}
use borrow.Author.Rules.{rules}
use Rattle.matching.proofs.rows.matches.Goals as goal

pub own_at-requires : goal.own_at-requires
own_at-requires c = search (rules, field_rooms, match_laws)

pub route_at-requires : goal.route_at-requires
route_at-requires c = search (rules, field_rooms, match_laws)

pub returns-then-not-own_at : goal.returns-then-not-own_at
returns-then-not-own_at c = search (rules, field_rooms, match_laws)

pub promising_at-requires : goal.promising_at-requires
promising_at-requires c = search (rules, field_rooms, match_laws)

pub returns-then-not-promising_at : goal.returns-then-not-promising_at
returns-then-not-promising_at c = search (rules, field_rooms, match_laws)

pub route_at-requires-2 : goal.route_at-requires-2
route_at-requires-2 c = search (rules, field_rooms, match_laws)

pub returns : goal.returns
returns c = search (rules, field_rooms, match_laws)

-- By the kinds of the two nodes (meeting_laws).
use Rattle.merging.proofs.NodeLaws.{meeting_laws}
use borrow.Author.Rules.{rules}
use Rattle.merging.proofs.node_merge.put_meeting.Goals as goal

pub own_at-requires : goal.own_at-requires
own_at-requires c = search (rules, meeting_laws)

pub returns-then-own_at-clause-size : goal.returns-then-own_at-clause-size
returns-then-own_at-clause-size c = search (rules, meeting_laws)

pub returns-then-own_at-clause-laid : goal.returns-then-own_at-clause-laid
returns-then-own_at-clause-laid c = search (rules, meeting_laws)

pub own_at-requires-2 : goal.own_at-requires-2
own_at-requires-2 c = search (rules, meeting_laws)

pub returns-then-own_at-2-clause-size : goal.returns-then-own_at-2-clause-size
returns-then-own_at-2-clause-size c = search (rules, meeting_laws)

pub returns-then-own_at-2-clause-laid : goal.returns-then-own_at-2-clause-laid
returns-then-own_at-2-clause-laid c = search (rules, meeting_laws)

pub returns-clause-size : goal.returns-clause-size
returns-clause-size c = search (rules, meeting_laws)

pub returns-clause-laid : goal.returns-clause-laid
returns-clause-laid c = search (rules, meeting_laws)

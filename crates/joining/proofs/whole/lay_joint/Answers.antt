-- The length is known by the counts. Without the room nothing is stored (joint_kept); with it the four parts are laid (joint_parts).
use Rattle.joining.proofs.RecordLaws.{recording}
use borrow.Author.Rules.{rules}
use Rattle.joining.proofs.whole.lay_joint.Goals as goal

pub returns-then-short-clause-size : goal.returns-then-short-clause-size
returns-then-short-clause-size c = search (rules, recording)

pub returns-then-short-clause-laid : goal.returns-then-short-clause-laid
returns-then-short-clause-laid c = search (rules, recording)

pub lay_parts-requires-clause-join_parts : goal.lay_parts-requires-clause-join_parts
lay_parts-requires-clause-join_parts c = search (rules, recording)

pub returns-clause-size : goal.returns-clause-size
returns-clause-size c = search (rules, recording)

-- One law for each part: nothing, the node as it stands, its note promised, its note assumed.
use Rattle.laying.proofs.RowLaws.{keeping}
use Rattle.writing.proofs.RunLaws.{runs}
use borrow.Author.Rules.{rules}
use Rattle.laying.proofs.rows.lay_node.Goals as goal

pub put_node-requires : goal.put_node-requires
put_node-requires c = (search keeping, search keeping)

pub put_promised-requires : goal.put_promised-requires
put_promised-requires c = (search keeping, search keeping, search keeping)

pub put_input-requires : goal.put_input-requires
put_input-requires c = (search keeping, search keeping)

pub note_offset-requires : goal.note_offset-requires
note_offset-requires c = (search rules, search keeping)

pub note_offset-requires-in-Assumed : goal.note_offset-requires-in-Assumed
note_offset-requires-in-Assumed c = (search rules, search keeping)

pub returns-in-Nothing : goal.returns-in-Nothing
returns-in-Nothing c = record { size = search (keeping, runs); laid = search (keeping, runs) }

pub returns-in-Stays : goal.returns-in-Stays
returns-in-Stays c = record { size = search (keeping, runs); laid = search (keeping, runs) }

pub returns-in-Promised : goal.returns-in-Promised
returns-in-Promised c = record { size = search (keeping, runs); laid = search (keeping, runs) }

pub returns-in-Assumed : goal.returns-in-Assumed
returns-in-Assumed c = record { size = search (keeping, runs); laid = search (keeping, runs) }

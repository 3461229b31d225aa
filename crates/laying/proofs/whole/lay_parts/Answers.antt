-- Four parts, each by a writer that is lent what remains behind the one before: they are the record (record_laid).
use Rattle.writing.proofs.Parts.{laid_parts}
use Rattle.layout.proofs.Places.{policies_room}
use borrow.Author.Rules.{rules}
use Rattle.laying.proofs.whole.lay_parts.Goals as goal

pub put_head-requires : goal.put_head-requires
put_head-requires c = (search laid_parts, search laid_parts)

pub put_policies-a-requires : goal.put_policies-a-requires
put_policies-a-requires c = record { head = (search rules, search policies_room); room = search laid_parts }

pub lay_nodes-requires : goal.lay_nodes-requires
lay_nodes-requires c = record { notes = search rules; room = search laid_parts }

pub returns : goal.returns
returns c = search laid_parts

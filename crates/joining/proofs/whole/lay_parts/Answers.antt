-- Four parts, each by a writer that is lent what remains behind the one before: they are the record (record_laid).
use Rattle.writing.proofs.Parts.{laid_parts}
use Rattle.layout.proofs.Places.{policies_room}
use Rattle.joining.proofs.RecordLaws.{parts_counted}
use borrow.Author.Rules.{rules}
use Rattle.joining.proofs.whole.lay_parts.Goals as goal

pub put_policies-a-requires-clause-head : goal.put_policies-a-requires-clause-head
put_policies-a-requires-clause-head c = search (rules, laid_parts, policies_room, parts_counted)

pub returns : goal.returns
returns c = search (rules, laid_parts, policies_room, parts_counted)

-- The length is known by the counts. Without the room nothing is stored (fragment_kept); with it the four parts are laid, which are the
-- fragment's record (fragment_parts_lem).
use Rattle.laying.proofs.RecordLaws.{recording}
use borrow.Author.Rules.{rules}
use Rattle.laying.proofs.whole.lay.Goals as goal

pub overflow_cast-nodes : goal.overflow_cast-nodes
overflow_cast-nodes c = search recording

pub overflow_cast-edges : goal.overflow_cast-edges
overflow_cast-edges c = search recording

pub returns-then-out-size : goal.returns-then-out-size
returns-then-out-size c = record { size = search recording; laid = search recording }

pub lay_parts-requires : goal.lay_parts-requires
lay_parts-requires c = record { notes = search recording; filled = search rules; room = (search rules, search rules); fragment_parts = search recording }

pub returns : goal.returns
returns c = record { size = search recording; laid = search rules }

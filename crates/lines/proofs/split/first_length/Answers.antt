-- Fewer than four bytes are all of them (split_short), and so is a length that points past the end (split_past); else it is length + 4 (split_within).
use Rattle.lines.proofs.Laws.{splitting}
use borrow.Author.Rules.{rules}
use Rattle.lines.proofs.split.first_length.Goals as goal

pub returns-then-all-lt4 : goal.returns-then-all-lt4
returns-then-all-lt4 c = (search splitting, search rules)

pub returns-then-all-length : goal.returns-then-all-length
returns-then-all-length c = (search splitting, search rules)

pub returns : goal.returns
returns c = (search splitting, search rules)

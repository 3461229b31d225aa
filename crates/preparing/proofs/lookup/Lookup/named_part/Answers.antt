-- The table has 0 at an id that no node has (named_nobody), and else the part is the box's (named_box).
use Rattle.preparing.proofs.LookupLaws.{naming}
use borrow.Author.Rules.{rules}
use Rattle.preparing.proofs.lookup.Lookup.named_part.Goals as goal

pub returns-then-not-is_boxed : goal.returns-then-not-is_boxed
returns-then-not-is_boxed c = search (rules, naming)

pub returns : goal.returns
returns c = search (rules, naming)

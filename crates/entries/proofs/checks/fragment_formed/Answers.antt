-- A sheet's entry has a fragment number up to 63; a list's has none.
use Rattle.entries.proofs.EntryLaws.{fragments}
use borrow.Author.Rules.{rules}
use Rattle.entries.proofs.checks.fragment_formed.Goals as goal

pub returns-in-0-to-63 : goal.returns-in-0-to-63
returns-in-0-to-63 c = search fragments

pub returns-in_default-b : goal.returns-in_default-b
returns-in_default-b c = search fragments

pub returns-in_default : goal.returns-in_default
returns-in_default c = search (rules, fragments)

-- What is kept is told in a table of zeros. The record's length decides between 20 and what was laid (record_roomed).
use Rattle.cutting.proofs.AnswerLaws.{record_roomed}
use Rattle.cutting.proofs.CheckLaws.{tables_whole}
use borrow.Author.Rules.{rules}
use Rattle.cutting.proofs.entry.cut_agreed.Goals as goal

pub lay-size-requires : goal.lay-size-requires
lay-size-requires c = record { tables = (search (rules, tables_whole), search rules); nodes_value = search rules; edges_value = search rules }

pub returns : goal.returns
returns c = record { answer = search record_roomed; buffer = search rules }

-- The text fits in its room (census_fits), and is what is read back from there (census_read).
use Rattle.counting.proofs.Lengths.{census_fits, census_read}
use borrow.Author.Rules.{rules}
use Rattle.census.proofs.CensusProgram.answer.Goals as goal

pub returns : goal.returns
returns c = record { fits = search (rules, census_fits); text = search (rules, census_read) }

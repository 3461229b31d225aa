-- Over the bound, or counted.
use Rattle.counting.proofs.EntryLaws.{census_texts}
use Rattle.lines.proofs.Answers.{answering}
use Rattle.counting.proofs.entry.census_bytes.Goals as goal

pub returns-then-longest-input : goal.returns-then-longest-input
returns-then-longest-input c = record { count = search (answering, census_texts); text = search (answering, census_texts) }

pub returns : goal.returns
returns c = record { count = search (answering, census_texts); text = search (answering, census_texts) }

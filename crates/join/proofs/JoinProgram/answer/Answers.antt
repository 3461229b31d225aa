-- The output fits in its room (text_fits), and is what is read back from there (text_read).
use Rattle.layout.specs.Form.{node_width}
use Rattle.reading.specs.Largest.{largest_network}
use Rattle.joining.proofs.TextLaws.{text_fits, text_read}
use borrow.Author.Rules.{rules}
use Rattle.join.proofs.JoinProgram.answer.Goals as goal

pub returns : goal.returns
unfolding largest_network node_width
returns c = record { fits = search (rules, text_fits); text = search (rules, text_read) }

-- Over the bound (text_over), or split in two (text_joined).
use Rattle.lines.proofs.Answers.{answering}
use Rattle.joining.proofs.TextLaws.{join_texts}
use borrow.Author.Rules.{rules}
use Rattle.joining.proofs.text.join_bytes.Goals as goal

pub returns-then-longest-input : goal.returns-then-longest-input
returns-then-longest-input c = search (rules, answering, join_texts)

pub returns : goal.returns
returns c = search (rules, answering, join_texts)

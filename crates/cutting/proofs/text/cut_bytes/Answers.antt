-- Over the bound (text_over), nothing behind the network (text_restless), or a fragment asked (text_asked).
use Rattle.lines.proofs.Answers.{answering}
use Rattle.cutting.proofs.TextLaws.{cut_texts}
use Rattle.cutting.proofs.text.cut_bytes.Goals as goal

pub returns-then-longest-input : goal.returns-then-longest-input
returns-then-longest-input c = record { count = search (answering, cut_texts); text = search (answering, cut_texts) }

pub returns-then-first-input : goal.returns-then-first-input
returns-then-first-input c = record { count = search (answering, cut_texts); text = search (answering, cut_texts) }

pub returns : goal.returns
returns c = record { count = search (answering, cut_texts); text = search (answering, cut_texts) }

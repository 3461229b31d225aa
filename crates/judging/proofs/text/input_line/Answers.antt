-- Over the bound (text_over), or judged (text_judged).
use Rattle.judging.proofs.TextLaws.{judge_texts}
use Rattle.judging.proofs.text.input_line.Goals as goal

pub returns-then-longest-input : goal.returns-then-longest-input
returns-then-longest-input c = search judge_texts

pub returns : goal.returns
returns c = search judge_texts

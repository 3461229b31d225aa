-- The input's line is placed (answering).
use Rattle.lines.proofs.Answers.{answering}
use Rattle.judging.proofs.text.judge_bytes.Goals as goal

pub returns : goal.returns
returns c = record { count = search answering; text = search answering }

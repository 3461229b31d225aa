-- A pass is counted; any other verdict has its line alone.
use Rattle.counting.proofs.EntryLaws.{verdicts}
use Rattle.lines.proofs.Answers.{answering}
use Rattle.counting.proofs.entry.place_judged.Goals as goal

pub returns-in_default : goal.returns-in_default
returns-in_default c =
    let not_pass = c.in_default.not-Pass in
    record { count = search (answering, verdicts, not_pass); text = search (answering, verdicts, not_pass) }

pub returns : goal.returns
returns c = record { count = search (answering, verdicts); text = search (answering, verdicts) }

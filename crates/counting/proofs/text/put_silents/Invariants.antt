-- Before the i-th turn the lines of the rows before it are put (Silences).
use Rattle.counting.proofs.LineLaws.{Silences}
use Rattle.counting.proofs.text.put_silents.Given as goal

abbrev pub invariant-loop-i : goal.invariant-loop-i
invariant-loop-i l = Silences l.proposal.network.form l.proposal.network.bytes.now l.proposal.list.now l.initial.room l.room l.i-end l.at l.next l.i

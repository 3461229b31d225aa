-- The loop's invariant is Putting: the bytes so far are put.
use Rattle.lines.proofs.Laws.{Putting}
use Rattle.lines.proofs.words.put_word.Given as goal

abbrev pub invariant-loop-i : goal.invariant-loop-i
invariant-loop-i l = Putting l.word l.initial.room l.room l.at l.i

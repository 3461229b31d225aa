-- The loop's invariant is Adding: the numbers so far are put.
use Rattle.lines.proofs.Laws.{Adding}
use Rattle.lines.proofs.words.add_numbers.Given as goal

abbrev pub invariant-loop-n : goal.invariant-loop-n
invariant-loop-n l = Adding l.numbers l.initial.room l.room l.at l.next l.n-index

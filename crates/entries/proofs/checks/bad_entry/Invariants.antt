-- Before the i-th turn every entry before it is well formed, and the least id that may come is known (Entering).
use Rattle.entries.proofs.EntryLaws.{Entering}
use Rattle.entries.proofs.checks.bad_entry.Given as goal

abbrev pub invariant-loop-i : goal.invariant-loop-i
invariant-loop-i l = Entering l.form l.lead l.b l.n l.i l.o l.least

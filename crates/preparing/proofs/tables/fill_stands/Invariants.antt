-- The rows before i are in the table, and all else is as it was (Filling).
use Rattle.preparing.proofs.StandLaws.{Filling}
use Rattle.preparing.proofs.tables.fill_stands.Given as goal

abbrev pub invariant-loop-i : goal.invariant-loop-i
invariant-loop-i l = Filling l.network.form l.network.bytes.now l.places l.initial.stands l.stands l.i-end l.i

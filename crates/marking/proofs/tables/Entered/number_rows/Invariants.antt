-- Before the i-th turn the rows before it have their numbers in the table (Numbering).
use Rattle.marking.proofs.FragmentLaws.{Numbering}
use Rattle.marking.proofs.tables.Entered.number_rows.Given as goal

abbrev pub invariant-loop-i : goal.invariant-loop-i
invariant-loop-i l = Numbering l.self.network.form l.self.network.bytes.now l.self.sheet.now l.n l.i l.initial.fragments l.fragments

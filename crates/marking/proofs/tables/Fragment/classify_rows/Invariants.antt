-- Before the i-th turn the rows before it have what is kept of them in the table, and those that are kept are counted (Classifying).
use Rattle.marking.proofs.PieceLaws.{Classifying}
use Rattle.marking.proofs.tables.Fragment.classify_rows.Given as goal

abbrev pub invariant-loop-i : goal.invariant-loop-i
invariant-loop-i l = Classifying l.self.entered.network.form l.self.entered.network.bytes.now l.self.entered.sheet.now l.self.k l.n l.i l.kept l.initial.pieces l.pieces

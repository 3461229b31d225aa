-- Before the i-th turn no row before it breaks a promise (Seek).
use Rattle.lists.proofs.Walk.{Seek}
use Rattle.marking.specs.Tables.{unclashed}
use Rattle.marking.proofs.tables.Entered.first_clash.Given as goal

abbrev pub invariant-loop-i : goal.invariant-loop-i
invariant-loop-i l = Seek (unclashed l.self.network.form l.self.network.bytes.now l.self.sheet.now) l.n l.i

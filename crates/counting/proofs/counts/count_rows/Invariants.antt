-- Before the i-th turn the rows before it are counted (Counting).
use Rattle.counting.proofs.CountLaws.{Counting}
use Rattle.counting.proofs.counts.count_rows.Given as goal

abbrev pub invariant-loop-i : goal.invariant-loop-i
invariant-loop-i l = Counting l.proposal.network.form l.proposal.network.bytes.now l.proposal.list.now l.what l.i-end l.i l.counted

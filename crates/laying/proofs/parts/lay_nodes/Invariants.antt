-- Before the i-th turn the bytes of the rows before it lie over the start of the buffer (Laying), and the next row fits in what remains.
use Rattle.writing.proofs.RunLaws.{Laying}
use Rattle.laying.specs.Pieces.{node_bytes}
use Rattle.layout.specs.Layout.{node_count}
use Rattle.laying.proofs.parts.lay_nodes.Given as goal

abbrev pub invariant-loop-i : goal.invariant-loop-i
invariant-loop-i l = Laying (node_bytes l.entered.network.form l.entered.network.bytes.now l.entered.sheet.now l.entered.entries.now l.pieces) (node_count l.entered.network.bytes.now) l.initial.out l.out l.i l.o

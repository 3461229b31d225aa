-- As lay_nodes, with the offset of the edge at hand.
use Rattle.writing.proofs.RunLaws.{Laying}
use Rattle.laying.specs.Pieces.{edge_bytes}
use Rattle.layout.specs.Layout.{edge_count, edge_offset}
use mathlib.Core.Path.{◌≡◌}
use Rattle.laying.proofs.parts.lay_edges.Given as goal

abbrev pub invariant-loop-j : goal.invariant-loop-j
invariant-loop-j l = (l.at ≡ edge_offset l.wires.table.network.form l.wires.table.network.bytes.now l.j) × Laying (edge_bytes l.wires.table.network.form l.wires.table.network.bytes.now l.wires.fragments.now l.wires.k) (edge_count l.wires.table.network.bytes.now) l.initial.out l.out l.j l.o

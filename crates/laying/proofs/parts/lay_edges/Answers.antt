use Rattle.laying.proofs.RowLaws.{offsets, edge_fits}
use Rattle.writing.proofs.RunLaws.{laying}
use Rattle.layout.specs.Layout.{edge_count}
use mathlib.Core.Path.{◌≡◌}
use borrow.Author.Rules.{rules}
use Rattle.laying.proofs.parts.lay_edges.Goals as goal

pub loop-j-init : goal.loop-j-init
loop-j-init c = (search rules, search laying)

pub slice_bounds-lay_edge-count : goal.slice_bounds-lay_edge-count
slice_bounds-lay_edge-count c = search (rules, laying, offsets)

pub slice_bounds-lay_edge-start : goal.slice_bounds-lay_edge-start
slice_bounds-lay_edge-start c = search (rules, laying, offsets)

pub lay_edge-o-requires : goal.lay_edge-o-requires
lay_edge-o-requires c = record { j_bound = (search rules, search rules); room = search (rules, edge_fits) }

pub overflow_add-o : goal.overflow_add-o
overflow_add-o c = search (rules, laying, offsets)

pub overflow_add-at : goal.overflow_add-at
overflow_add-at c = search (rules, laying, offsets)

pub loop-j-preserved : goal.loop-j-preserved
loop-j-preserved c =
    let places : c.edge_count-n.result ≡ edge_count c.args.wires.table.network.bytes.now = search rules in
    (search offsets, search (laying, places))

use Rattle.laying.proofs.RowLaws.{node_fits}
use Rattle.writing.proofs.RunLaws.{laying}
use Rattle.layout.specs.Layout.{node_count}
use mathlib.Core.Path.{◌≡◌}
use borrow.Author.Rules.{rules}
use Rattle.laying.proofs.parts.lay_nodes.Goals as goal

pub loop-i-init : goal.loop-i-init
loop-i-init c = search (rules, laying)

pub slice_bounds-lay_node-count : goal.slice_bounds-lay_node-count
slice_bounds-lay_node-count c = search (rules, laying)

pub slice_bounds-lay_node-start : goal.slice_bounds-lay_node-start
slice_bounds-lay_node-start c = search (rules, laying)

pub lay_node-o-requires : goal.lay_node-o-requires
lay_node-o-requires c = record { notes = search rules; i_bound = search rules; room = search (rules, node_fits) }

pub overflow_add-o : goal.overflow_add-o
overflow_add-o c = search (rules, laying)

pub loop-i-preserved : goal.loop-i-preserved
loop-i-preserved c =
    let places : c.node_count-n.result ≡ node_count c.args.entered.network.bytes.now = search rules in
    search (laying, places)

pub returns : goal.returns
returns c = record { size = search (rules, laying); laid = search (rules, laying) }

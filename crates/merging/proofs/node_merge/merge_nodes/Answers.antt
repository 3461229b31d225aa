use Rattle.merging.proofs.NodeLaws.{nodes_next, nodes_room, node_merging}
use borrow.Author.Rules.{rules}
use Rattle.merging.proofs.node_merge.merge_nodes.Goals as goal

pub loop-init : goal.loop-init
loop-init c = search (rules, node_merging)

pub slice_bounds-put_lower-count : goal.slice_bounds-put_lower-count
slice_bounds-put_lower-count c = search (rules, node_merging)

pub slice_bounds-put_lower-start : goal.slice_bounds-put_lower-start
slice_bounds-put_lower-start c = search (rules, node_merging)

pub put_lower-o-requires-clause-room : goal.put_lower-o-requires-clause-room
put_lower-o-requires-clause-room c =
    let pair = c.args.pair in
    nodes_room _ _ _ _ _ _ _ _ _ _ c.loop.invariant c.requires.room (search rules) record { one = pair.first_checked; other = pair.second_checked }

pub overflow_add-o : goal.overflow_add-o
overflow_add-o c = search (rules, node_merging)

pub loop-preserved : goal.loop-preserved
loop-preserved c =
    let pair = c.args.pair in
    let other = rw pair.one_form at c.front_id-j.ensures.0 in
    nodes_next _ _ _ _ _ _ _ _ _ _ c.loop.invariant (search rules) (search rules) record { one = pair.first_checked; other = pair.second_checked }
    _ c.put_lower-o.ensures.size _ c.put_lower-o.ensures.laid _ _ _ _ c.front_id-i.ensures.0 other c.from-p.ensures c.from-q.ensures

pub returns-clause-size : goal.returns-clause-size
returns-clause-size c = search (rules, node_merging)

pub returns-clause-laid : goal.returns-clause-laid
returns-clause-laid c = search (rules, node_merging)

use Rattle.merging.proofs.EdgeLaws.{edge_merging, turn_laid, turn_less}
use borrow.Author.Rules.{rules}
use Rattle.merging.proofs.edge_merge.merge_edges.Goals as goal

pub loop-p-init : goal.loop-p-init
loop-p-init c = search (rules, edge_merging)

pub lay_turn-gone-requires-clause-room : goal.lay_turn-gone-requires-clause-room
lay_turn-gone-requires-clause-room c = search (rules, edge_merging)

pub overflow_add-p-in-loop-p : goal.overflow_add-p-in-loop-p
overflow_add-p-in-loop-p c = search (rules, edge_merging)

pub overflow_add-q : goal.overflow_add-q
overflow_add-q c = search (rules, edge_merging)

pub overflow_add-gone : goal.overflow_add-gone
overflow_add-gone c = search (rules, edge_merging)

pub stride-o-requires : goal.stride-o-requires
stride-o-requires c = search (rules, edge_merging)

pub loop-p-smaller : goal.loop-p-smaller
loop-p-smaller c =
    let gone = c.lay_turn-gone.ensures in
    let pair = c.args.pair in
    turn_less _ _ _ _ _ _ _ _ c.loop-p.invariant (search rules) _ _ gone.first gone.second
    record { one = pair.first_checked; other = pair.second_checked } c.requires.apart _ c.requires.counted (search rules)

pub loop-p-preserved : goal.loop-p-preserved
loop-p-preserved c =
    let gone = c.lay_turn-gone.ensures in
    turn_laid _ _ _ _ _ _ _ _ c.loop-p.invariant (search rules) _ _ gone.first gone.second _ c.stride-o.ensures.0 _ gone.laid

-- A run of the first network, and behind it a run of the second (turning).
use Rattle.merging.proofs.EdgeLaws.{run_within, first_room, first_gone, second_gone, second_room, turn_done, turning}
use borrow.Author.Rules.{rules}
use Rattle.merging.proofs.edge_merge.lay_turn.Goals as goal

pub put_run-size-requires-clause-within : goal.put_run-size-requires-clause-within
put_run-size-requires-clause-within c = search turning

pub put_run-size-requires-clause-room : goal.put_run-size-requires-clause-room
put_run-size-requires-clause-room c =
    let front = rw c.args.pair.one_form at c.front_key.ensures.0 in
    first_room _ _ _ _ _ c.requires.within.0 c.requires.within.1 _ _ c.run_below-a.ensures front _ c.requires.room

pub overflow_add-p : goal.overflow_add-p
overflow_add-p c = search (rules, turning)

pub slice_bounds-put_run-count : goal.slice_bounds-put_run-count
slice_bounds-put_run-count c = search (rules, turning)

pub slice_bounds-put_run-start : goal.slice_bounds-put_run-start
slice_bounds-put_run-start c = search (rules, turning)

pub put_run-requires-clause-checked : goal.put_run-requires-clause-checked
put_run-requires-clause-checked c = rw c.args.pair.one_form c.args.pair.second_checked

pub put_run-requires-clause-within : goal.put_run-requires-clause-within
put_run-requires-clause-within c = run_within _ _ _ _ _ c.requires.within.1 c.run_below-b.ensures

pub put_run-requires-clause-room : goal.put_run-requires-clause-room
put_run-requires-clause-room c =
    let given = c.requires.within in
    let one = c.args.pair.one_form in
    let front = rw one at c.front_key.ensures.0 in
    let below = rw one at c.run_below-b.ensures in
    rw one (second_room _ _ _ _ _ given.0 given.1 _ _ c.run_below-a.ensures front _ _ below
    c.front_key-2.ensures.0 _ c.requires.room _ _ c.put_run-size.ensures.size c.put_run-size.ensures.laid)

pub returns-clause-first : goal.returns-clause-first
returns-clause-first c =
    let front = rw c.args.pair.one_form at c.front_key.ensures.0 in
    first_gone _ _ _ _ _ c.requires.within.0 c.requires.within.1 _ _ c.run_below-a.ensures front

pub returns-clause-second : goal.returns-clause-second
returns-clause-second c =
    let one = c.args.pair.one_form in
    let front = rw one at c.front_key.ensures.0 in
    let below = rw one at c.run_below-b.ensures in
    second_gone _ _ _ _ _ c.requires.within.0 c.requires.within.1 _ _ c.run_below-a.ensures front
    _ _ below c.front_key-2.ensures.0

pub returns-clause-laid : goal.returns-clause-laid
returns-clause-laid c =
    let one = c.args.pair.one_form in
    let front = rw one at c.front_key.ensures.0 in
    let below = rw one at c.run_below-b.ensures in
    let laid = rw one at c.put_run.ensures.laid in
    turn_done _ _ _ _ _ c.requires.within.0 c.requires.within.1 _ _ c.run_below-a.ensures front
    _ _ below c.front_key-2.ensures.0 _ c.requires.room _ _ c.put_run-size.ensures.size c.put_run-size.ensures.laid _ laid

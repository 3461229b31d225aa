use Rattle.judging.proofs.SearchLaws.{searching, wiring, wiring_wire}
use Rattle.preparing.proofs.PreparedLaws.{prepared}
use borrow.Author.Rules.{rules}
use Rattle.judging.proofs.first_fault.search.Goals as goal

pub first_wire-wire-requires : goal.first_wire-wire-requires
first_wire-wire-requires c = search (rules, prepared)

pub nodes-init : goal.nodes-init
nodes-init c = search (rules, searching, wiring, prepared)

pub nodes-preserved-then-not-is_own : goal.nodes-preserved-then-not-is_own
nodes-preserved-then-not-is_own c = search (rules, searching, wiring, prepared)

pub overflow_add-count : goal.overflow_add-count
overflow_add-count c = search (rules, searching)

pub loop-due-init : goal.loop-due-init
loop-due-init c = search (rules, searching, wiring, prepared)

pub nodes-preserved : goal.nodes-preserved
nodes-preserved c = search (rules, searching, wiring, prepared)

pub returns-in-Due : goal.returns-in-Due
returns-in-Due c = search (rules, wiring)

pub returns-in-Promise : goal.returns-in-Promise
returns-in-Promise c = search (rules, wiring)

pub returns-in-Demand : goal.returns-in-Demand
returns-in-Demand c = search (rules, wiring)

pub over_wire-due-requires : goal.over_wire-due-requires
over_wire-due-requires c = wiring_wire _ _ _ _ _ _ _ _ _ c.loop-due.invariant (search wiring)

pub wire_behind-wire-requires : goal.wire_behind-wire-requires
wire_behind-wire-requires c = (search (rules, prepared), wiring_wire _ _ _ _ _ _ _ _ _ c.loop-due.invariant (search wiring))

pub loop-due-smaller : goal.loop-due-smaller
loop-due-smaller c = search (rules, searching, wiring, prepared)

pub loop-due-preserved : goal.loop-due-preserved
loop-due-preserved c = search (rules, searching, wiring, prepared)

pub returns : goal.returns
returns c = search (rules, searching, wiring, prepared)

use Rattle.merging.proofs.EdgeLaws.{run_there, run_looking}
use borrow.Author.Rules.{rules}
use Rattle.merging.proofs.edge_merge.run_below.Goals as goal

pub loop-k-init : goal.loop-k-init
loop-k-init c = search (rules, run_looking)

pub u32_at-requires : goal.u32_at-requires
u32_at-requires c = search (rules, run_there _ _ _ _ _ _ c.loop-k.invariant)

pub returns-then-limit-u32_at : goal.returns-then-limit-u32_at
returns-then-limit-u32_at c = search (rules, run_looking)

pub overflow_add-at : goal.overflow_add-at
overflow_add-at c = search (rules, run_looking)

pub loop-k-preserved : goal.loop-k-preserved
loop-k-preserved c = search (rules, run_looking)

pub returns : goal.returns
returns c = search (rules, run_looking)

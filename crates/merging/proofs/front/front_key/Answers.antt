-- The key in a row, or a number above all keys (key_fronts).
use Rattle.merging.proofs.EdgeLaws.{key_fronts}
use borrow.Author.Rules.{rules}
use Rattle.merging.proofs.front.front_key.Goals as goal

pub u32_at-requires : goal.u32_at-requires
u32_at-requires c = search (rules, key_fronts)

pub returns-then-p-edge_count : goal.returns-then-p-edge_count
returns-then-p-edge_count c = search (rules, key_fronts)

pub returns : goal.returns
returns c = search (rules, key_fronts)

use Rattle.nodes.proofs.NodeLaws.{noding, node_rooms}
use borrow.Author.Rules.{rules}
use Rattle.nodes.proofs.nodes.bad_node.Goals as goal

pub loop-i-init : goal.loop-i-init
loop-i-init c = search noding

pub u16_at-id-requires : goal.u16_at-id-requires
u16_at-id-requires c = search node_rooms

pub returns-then-id-least : goal.returns-then-id-least
returns-then-id-least c = search noding

pub node_formed-requires : goal.node_formed-requires
node_formed-requires c = search (rules, node_rooms)

pub returns-then-not-node_formed : goal.returns-then-not-node_formed
returns-then-not-node_formed c = search noding

pub overflow_add-o : goal.overflow_add-o
overflow_add-o c = search node_rooms

pub loop-i-preserved : goal.loop-i-preserved
loop-i-preserved c = search noding

pub returns : goal.returns
returns c = search noding

-- Of two fronts the lower one is a node's, and the box there is the next (node_lower).
use Rattle.merging.proofs.NodeLaws.{node_lower}
use borrow.Author.Rules.{rules}
use Rattle.merging.proofs.node_merge.put_lower.Goals as goal

pub put_node-requires : goal.put_node-requires
put_node-requires c = search (rules, node_lower)

pub returns-then-i-j-clause-size : goal.returns-then-i-j-clause-size
returns-then-i-j-clause-size c = search (rules, node_lower)

pub returns-then-i-j-clause-laid : goal.returns-then-i-j-clause-laid
returns-then-i-j-clause-laid c = search (rules, node_lower)

pub put_node-requires-then-j-i : goal.put_node-requires-then-j-i
put_node-requires-then-j-i c = search (rules, node_lower)

pub returns-then-j-i-clause-size : goal.returns-then-j-i-clause-size
returns-then-j-i-clause-size c = search (rules, node_lower)

pub returns-then-j-i-clause-laid : goal.returns-then-j-i-clause-laid
returns-then-j-i-clause-laid c = search (rules, node_lower)

pub put_meeting-requires-clause-nodes : goal.put_meeting-requires-clause-nodes
put_meeting-requires-clause-nodes c = (search (rules, node_lower), search node_lower)

pub returns-clause-size : goal.returns-clause-size
returns-clause-size c = search (rules, node_lower)

pub returns-clause-laid : goal.returns-clause-laid
returns-clause-laid c = search (rules, node_lower)

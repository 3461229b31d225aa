-- The kind is read at the node's offset.
use Rattle.nodes.proofs.RowReads.{node_reads}
use Rattle.nodes.proofs.record.NetworkRecord.is_own.Goals as goal

pub own_at-requires : goal.own_at-requires
own_at-requires c = search node_reads

pub returns : goal.returns
returns c = search node_reads

-- The id is read at the node's offset.
use Rattle.nodes.proofs.RowReads.{node_reads}
use Rattle.nodes.proofs.record.NetworkRecord.node_id.Goals as goal

pub u16_at-requires : goal.u16_at-requires
u16_at-requires c = search node_reads

pub returns : goal.returns
returns c = search node_reads

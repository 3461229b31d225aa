-- The records and their tables are prepared, so that the network may be read by its table.
use Rattle.preparing.proofs.PreparedLaws.{prepared_filled}
use Rattle.preparing.proofs.lookup.Lookup.table.Goals as goal

pub invariant_of-result : goal.invariant_of-result
invariant_of-result c = record {
  tabled = record {
    room = c.args.self.now.proposal.network.room;
    filled = prepared_filled _ _ _ _ _ c.args.self.now.prepared;
  };
}

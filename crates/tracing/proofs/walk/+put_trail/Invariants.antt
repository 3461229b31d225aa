-- A box's line, and behind it the trail from its sender. The measure is what the box's route costs: the sender's costs less.
use Rattle.reading.specs.House.{cost_of}
use Rattle.tracing.specs.Tracing.{mapping_in}
use Rattle.tracing.proofs.walk.+put_trail.Given as goal

abbrev pub decreases-put_trail : goal.decreases-put_trail
decreases-put_trail l = cost_of (mapping_in l.lookup.now.proposal.network.form l.lookup.now.proposal.network.bytes.now l.lookup.now.proposal.list.now l.id)

-- Who has both tables has the one of where routes stand, and room for the network's parts.
use Rattle.preparing.proofs.PreparedLaws.{prepared_standing, prepared_listed}
use Rattle.preparing.proofs.lookup.Lookup.new.Goals as goal

pub invariant_of-network : goal.invariant_of-network
invariant_of-network c = record { room = (prepared_listed _ _ _ _ _ c.requires).checked.room }

pub invariant_of-proposal : goal.invariant_of-proposal
invariant_of-proposal c = record { standing = prepared_standing _ _ _ _ _ c.requires }

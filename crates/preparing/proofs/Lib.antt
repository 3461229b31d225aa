-- A route in its record: what the records say of a sender, and the part that holds it.
pub mod Said
pub mod PartLaws
-- The table of where routes stand, the lookup by it, and the refusals before judging.
pub mod PreparedLaws
pub mod StandLaws
pub mod LookupLaws
pub mod PrepareLaws
-- What a call leaves, by its contract.
pub mod GivenLaws

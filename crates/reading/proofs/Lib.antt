-- Each part of a record written and read back, and read and written back.
pub mod DemandCodec
pub mod BoxCodec
pub mod RowCodecs
-- Whole records.
pub mod Joins
pub mod Said
pub mod NetworkBytes
pub mod Lengths
pub mod ReadSound
pub mod WrittenFine
pub mod EntryBytes
pub mod EntryKinds
pub mod Fits
pub mod Bridges
pub mod Lowest
-- The house's routes.
pub mod HouseRoutes
pub mod Adding

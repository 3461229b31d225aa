-- Cutting on bytes: what the cutter answers of a network record and a sheet record, what it leaves in a lent buffer, and what the
-- cutting program writes.
pub mod Cutting
pub mod Stages
pub mod Text

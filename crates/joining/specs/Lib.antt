-- Joining on bytes: what the joiner answers of two network records, what it leaves in a lent buffer, and what the joining program writes.
pub mod Joining
pub mod Stages
pub mod Parts
pub mod Text

-- The frame of every record: its form, where its parts stand, and the numbers by which it is refused.
pub mod Form
pub mod Layout
pub mod Refusals

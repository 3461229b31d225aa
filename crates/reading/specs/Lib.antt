-- The house's routes as a routing algebra; what the bytes of a record say, the bytes that say it, how many there can be, and what a sound
-- one's policies add.
pub mod House
pub mod Asking
pub mod Parts
pub mod Rows
pub mod Whole
pub mod Largest
pub mod Adding

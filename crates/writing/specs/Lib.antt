-- Writing: the bytes that the writers of a network record lay down, and what they ask of the bytes that they copy.
pub mod Heads
pub mod Rows
pub mod Parts

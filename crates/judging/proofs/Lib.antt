-- The search: what is left to look at, and the two loops.
pub mod LeftLaws
pub mod SearchLaws
-- The entry points, and what the program prints.
pub mod EntryLaws
pub mod TextLaws
pub mod Starts
-- A verdict by its answer; the theorems about networks, on bytes.
pub mod Answers
pub mod OnBytes
pub mod Neighbours

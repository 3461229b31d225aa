-- Marking: what the cutter's tables hold by the rows of a network's nodes, and what a fragment keeps of each row.
pub mod Tables
pub mod Marks
pub mod Pieces
pub mod Once
pub mod Fragments

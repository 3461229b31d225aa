-- What the programs read and print: how an input is split, the lines, the answer to an input that is too long, and what a writer of
-- words leaves in a lent room.
pub mod Split
pub mod Line
pub mod Bound
pub mod Written

-- Network records: what is refused of them, by number and place, the tables by which they are read, and what a check gives a reader.
pub mod Edge
pub mod Network
pub mod Rows
pub mod Checked
pub mod Entered
pub mod Once

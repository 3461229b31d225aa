-- What is refused before judging, the two tables by which routes are found, and a route as it stands in its record.
pub mod Prepared
pub mod Parts
pub mod Once

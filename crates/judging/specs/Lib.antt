-- Judging on bytes: what the judge answers of a network record and a route list record, and what the judging program prints.
pub mod Answers
pub mod Judging
pub mod Neighbour
pub mod Text

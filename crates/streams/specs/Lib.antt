-- What reading an input can come to, and what has to be written then.
pub mod Input
pub mod Answers

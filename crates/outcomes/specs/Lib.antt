-- Outcomes of calls that lay a network record down: the answer, the buffer, and a program's text.
pub mod Outcomes
pub mod Room
pub mod Text

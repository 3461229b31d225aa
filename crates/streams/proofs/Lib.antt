-- Laws for the programs: Answers.
pub mod Answers

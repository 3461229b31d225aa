-- The refusals and the answer of the cutter as the code goes, and what the program writes.
pub mod AnswerLaws
pub mod CheckLaws
pub mod TextLaws
pub mod Starts
-- The theorems about networks, on bytes.
pub mod OnBytes

-- Joining: the joiner's answers, refusal by refusal; the counts and the record; what two records say; the program's output.
pub mod AnswerLaws
pub mod CountLaws
pub mod RecordLaws
pub mod CheckLaws
pub mod OnBytes
pub mod Starts
pub mod TextLaws

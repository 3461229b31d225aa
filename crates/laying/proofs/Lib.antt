-- Which rows are laid, and the record that they make.
pub mod RowLaws
pub mod RecordLaws

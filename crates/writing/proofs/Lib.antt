-- What the writers lay down, and the record that the parts make.
pub mod HeadLaws
pub mod RowLaws
pub mod RunLaws
pub mod Parts
pub mod Selected

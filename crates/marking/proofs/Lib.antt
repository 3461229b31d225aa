-- What the tables, the marks and the parts of rows say, as the code fills them.
pub mod Said
pub mod FragmentLaws
pub mod MarkLaws
pub mod MarkSaid
pub mod RowLaws
pub mod ClashLaws
pub mod PieceLaws

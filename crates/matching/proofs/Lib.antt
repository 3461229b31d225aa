-- Matching: the rows and the policies of two networks, as the code finds them and as the networks say them.
pub mod RowLaws
pub mod PolicyLaws
pub mod Said

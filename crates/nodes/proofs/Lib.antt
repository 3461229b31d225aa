-- Laws for the code's own proofs: NodeLaws, PolicyLaws, RowReads.
pub mod NodeLaws
pub mod PolicyLaws
pub mod RowReads

-- Laws for other crates: Fine, RowLaws, MarkLaws, Checked, EnteredLaws, Boundaries. Laws for the code's own proofs: EdgeLaws, FillLaws,
-- LeftLaws, NetworkRefusals.
pub mod Fine
pub mod RowLaws
pub mod MarkLaws
pub mod Checked
pub mod EnteredLaws
pub mod Boundaries
pub mod EdgeLaws
pub mod FillLaws
pub mod LeftLaws
pub mod NetworkRefusals

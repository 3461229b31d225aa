-- Laws for other crates: CensusLaws, Lengths. Laws for the code's own proofs: CountLaws, LineLaws, EntryLaws.
pub mod CensusLaws
pub mod Lengths
pub mod CountLaws
pub mod LineLaws
pub mod EntryLaws

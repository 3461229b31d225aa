-- Laws for other crates: Fine. Laws for the code's own proofs: EntryLaws, EntryRefusals, LookupLaws.
pub mod Fine
pub mod EntryLaws
pub mod EntryRefusals
pub mod LookupLaws

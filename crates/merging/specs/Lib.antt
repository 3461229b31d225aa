-- Merging: the joint network of two records, and what the merge looks at.
pub mod Front
pub mod Merged
pub mod Runs

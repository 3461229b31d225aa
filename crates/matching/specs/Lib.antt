-- Matching: what is asked of the rows and of the policies of two networks that are to be joined.
pub mod Once
pub mod Rows
pub mod Policies

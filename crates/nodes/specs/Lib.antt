-- Policies and nodes as bytes, and when they are well formed.
pub mod Policy
pub mod Node
pub mod Once

-- An own box and its first fault, the wires one after another, and those into a box.
pub mod BoxLaws
pub mod WireLaws
pub mod IntoLaws
-- A fault by its finding.
pub mod Faults

-- Tracing on bytes: what is shown of a box by a network record and a route list record, and what the tracing program prints.
pub mod Tracing
pub mod Text

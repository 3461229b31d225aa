-- Sheets and route lists as bytes, and what is refused of them, by number and place.
pub mod Entries
pub mod Once

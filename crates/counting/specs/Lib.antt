-- What a census counts, the lines that say it, and what the program prints.
pub mod Counted
pub mod Lines
pub mod Rows
pub mod Text

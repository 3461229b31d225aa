-- Laying: the bytes of a fragment's record, part after part.
pub mod Pieces
pub mod Records

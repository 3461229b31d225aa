-- Numbers as a record holds them, and as a line of text does.
pub mod BigEndian
pub mod Decimal
pub mod Zeros

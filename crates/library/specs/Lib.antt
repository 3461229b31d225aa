-- What crosses to other languages as numbers.
pub mod Place

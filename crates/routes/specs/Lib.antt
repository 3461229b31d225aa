-- Routes: which of two is better, what a wire makes of one, whether a demand is met, and how a record holds them.
pub mod Order
pub mod Alike
pub mod Carry
pub mod Demand
pub mod Form

-- The root of the laws of numbers::radical.
pub mod Squares
pub mod Counting
pub mod Nearest
pub mod Patterns
pub mod Scaling
pub mod Function
pub mod Laws
pub mod Examples

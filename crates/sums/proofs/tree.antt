-- The root of the laws of sums::tree.
pub mod Order
pub mod Keeps
pub mod Overflow
pub mod Lookup
pub mod Same

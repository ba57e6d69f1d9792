-- The root of the definitions of sums::tree.
pub mod Kinds
pub mod Sums
pub mod Order
pub mod Same
pub mod Good
pub mod Map

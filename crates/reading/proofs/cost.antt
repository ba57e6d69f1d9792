-- The root of the laws of reading::cost.
pub mod Each
pub mod Begins
pub mod Most
pub mod Exact
pub mod Pairs
pub mod Without
pub mod Theorem
pub mod Laws
pub mod Examples

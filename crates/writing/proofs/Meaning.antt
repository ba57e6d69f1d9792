-- The root of the laws of what a list means.
pub mod Running
pub mod Theorem
pub mod Examples

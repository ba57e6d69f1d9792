-- The root of the laws of modifiers.
pub mod Laws
pub mod Runs
pub mod Plans
pub mod Keeps
pub mod Good
pub mod Pairs
pub mod Room

-- The root of the laws of primitives.
pub mod Constants
pub mod Cases
pub mod Pairs

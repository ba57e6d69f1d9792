-- The root of the definitions of inverse.
pub mod Inverse
pub mod Contract

-- The modules here.
pub mod Calculus
pub mod Coefs
pub mod Reading
pub mod Terms
pub mod Writing

-- The laws of the integral.
pub mod Storing

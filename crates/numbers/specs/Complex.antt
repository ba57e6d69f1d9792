-- The root of the definitions of numbers::complex.
pub mod Arith
pub mod Contract

-- The root of the laws of numbers::complex.
pub mod Real

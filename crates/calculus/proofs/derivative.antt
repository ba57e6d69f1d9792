-- The laws of the derivative.
pub mod Primes
pub mod Steps

-- The root of the laws of powers::divide.
pub mod Places
pub mod Turns
pub mod Powers
pub mod Heads
pub mod Able
pub mod Terms
pub mod Divisors

-- The root of the laws of inverse.
pub mod Words
pub mod Forms
pub mod Coefs
pub mod Good
pub mod Searching

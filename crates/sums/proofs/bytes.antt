-- The laws of sums and their bytes.
pub mod Laws
pub mod Theorem
pub mod Reading
pub mod Examples

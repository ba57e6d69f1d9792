-- The root of the laws of sums::entry.
pub mod Codes

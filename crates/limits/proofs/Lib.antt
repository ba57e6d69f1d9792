-- The root of the laws of limits.
pub mod Variants
pub mod Refusals

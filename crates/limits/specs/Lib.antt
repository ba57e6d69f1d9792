-- The root of the definitions of limits.
pub mod Limits
pub mod Refusals

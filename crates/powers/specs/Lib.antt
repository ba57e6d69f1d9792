-- The root of the definitions of powers.
pub mod Divide
pub mod Raise
